-- Pieces that are handed over one after another.
use Rattle.std.proofs.Common.{◌≡◌, ◌++◌, ◌∙◌, ℕ, List, Option, [], false, length, take, subst, sym, ap, refl, append_assoc, append-nil, length-append}
use Rattle.std.proofs.KnownBytes.{Appends-nil, Appends-trans}
use Rattle.std.proofs.Math.Seq.{take-append-add}
use Rattle.std.proofs.Transfers.{starts_with_of_append, starts_with_trans}
use Rattle.std.specs.Io.{StartsWith}
use Rattle.std.specs.Io.KnownBytes.{Appends}
use Rattle.program_streams.specs.declared.watched.Watched.{Watched}
use Rattle.program_streams.specs.Gathered.{Adds, IsGathered}
use Rattle.program_streams.specs.Limits.{IsGiven}
use Rattle.program_streams.specs.Watched.{has_failed, watched}

-- a text begins with its front and a beginning of the rest
starts_later : (front bytes some : List ℕ) → StartsWith bytes some → StartsWith (front ++ bytes) (front ++ some)
starts_later front bytes some starts =
    ap (λ (n : ℕ). take n (front ++ bytes)) (length-append front some) ∙ (take-append-add front bytes (length some) ∙ ap (λ (l : List ℕ). front ++ l) starts)

module _ {W : Type 0} (contents : W → Option (List ℕ)) where
  -- nothing is handed over
  pub adds_none : (writer : Watched W) (waiting : List ℕ) → Adds contents writer waiting writer waiting []
  adds_none writer waiting = λ old text gathered. subst (λ (t : List ℕ). IsGathered contents old writer waiting t) (sym (append-nil text)) gathered

  -- two pieces are one
  pub adds_both : (first : Watched W) (waits : List ℕ) (second : Watched W) (waiting : List ℕ) (third : Watched W) (later piece more : List ℕ) → Adds contents first waits second waiting piece → Adds contents second waiting third later more → Adds contents first waits third later (piece ++ more)
  adds_both first waits second waiting third later piece more one other = λ old text gathered.
      subst (λ (t : List ℕ). IsGathered contents old third later t) (append_assoc text piece more) (other old (text ++ piece) (one old text gathered))

  -- the same piece
  pub adds_same : (first : Watched W) (waits : List ℕ) (second : Watched W) (waiting piece same : List ℕ) → piece ≡ same → Adds contents first waits second waiting piece → Adds contents first waits second waiting same
  adds_same first waits second waiting piece same is adds = subst (λ (p : List ℕ). Adds contents first waits second waiting p) is adds

  -- a piece waits
  pub adds_kept : (writer : Watched W) (waiting piece : List ℕ) → Adds contents writer waiting writer (waiting ++ piece) piece
  adds_kept writer waiting piece = λ old text gathered. record {
    working = λ well. let (front, given, is) = gathered.working well in (front, given, ap (λ (t : List ℕ). t ++ piece) is ∙ append_assoc front waiting piece);
    failing = λ failed. let (front, given, starts) = gathered.failing failed in (front, given, starts_with_trans (text ++ piece) text front (starts_with_of_append (text ++ piece) text piece refl) starts);
    again = gathered.again;
  }

  -- what waits is written
  pub adds_given : (writer after : Watched W) (waiting : List ℕ) → has_failed writer ≡ false → IsGiven contents writer after waiting → Adds contents writer waiting after [] []
  adds_given writer after waiting well given = λ old text gathered.
      let (front, written, is) = gathered.working well in
      let Fits : List ℕ → Type 0 = λ t. IsGathered contents old after [] t in
      subst Fits (sym (append-nil text)) (record {
        working = λ still. (front ++ waiting, Appends-trans (contents (watched old)) (contents (watched writer)) (contents (watched after)) front waiting written (given.whole still), is ∙ sym (append-nil (front ++ waiting)));
        failing = λ failed.
            let (some, taken, starts) = given.front failed in
            (front ++ some, Appends-trans (contents (watched old)) (contents (watched writer)) (contents (watched after)) front some written taken, subst (λ (t : List ℕ). StartsWith t (front ++ some)) (sym is) (starts_later front waiting some starts));
        again = given.again ∙ gathered.again;
      })

  -- before anything is handed over
  pub gathers_none : (writer : Watched W) → has_failed writer ≡ false → IsGathered contents writer writer [] []
  gathers_none writer well = record {
    working = λ _. ([], Appends-nil (contents (watched writer)), refl);
    failing = λ failed. cc (failed, well);
    again = refl;
  }

  -- once all of a text was handed over, and what waited was written
  pub all_gathered : (writer middle after : Watched W) (first waiting last text : List ℕ) → has_failed writer ≡ false → first ≡ [] → Adds contents writer first middle waiting text → last ≡ [] → Adds contents middle waiting after last [] → IsGathered contents writer after [] text
  all_gathered writer middle after first waiting last text well none handed empty flushed =
      let Handed : List ℕ → Type 0 = λ l. Adds contents writer l middle waiting text in
      let Flushed : List ℕ → Type 0 = λ l. Adds contents middle waiting after l [] in
      subst (λ (t : List ℕ). IsGathered contents writer after [] t) (append-nil text) (subst Flushed empty flushed writer text (subst Handed none handed writer [] (gathers_none writer well)))

  -- then all of it is written, unless a write failed
  pub all_written : (writer after : Watched W) (text : List ℕ) → IsGathered contents writer after [] text → has_failed after ≡ false → Appends (contents (watched writer)) (contents (watched after)) text
  all_written writer after text gathered well =
      let (front, given, is) = gathered.working well in
      subst (λ (t : List ℕ). Appends (contents (watched writer)) (contents (watched after)) t) (sym (is ∙ append-nil front)) given
