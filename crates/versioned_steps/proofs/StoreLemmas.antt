-- What a store finds for a part, and how it follows a history.
use Rattle.std.proofs.Common.{◌≡◌, ℕ, All, IfSome, IfNone, ◌+◌, Bool, true, false, cond, if◌then◌else◌, Option, Some, None, is_some, unwrap_or, List, [], ◌∷◌, ◌++◌, length, refl, ap, sym, ◌∙◌, subst}
use Rattle.std.proofs.lemmas.List.{length-append}
use Rattle.std.specs.Option.{option_map_or}
use Rattle.std.specs.Map.{lookup}
use Rattle.std.specs.Cmp.{IsEquivalence}
use Rattle.versioned_steps.specs.Rules.{Rules}
use Rattle.versioned_steps.specs.History.{write_to, writes_on, value_of, version_of, values_after, last_touch}
use Rattle.versioned_steps.specs.Stores.{StoreView, found_in, stored_of, Replays}
use Rattle.versioned_steps.specs.declared.entry.Entry.{Entry}
use Rattle.versioned_steps.specs.declared.stored.Stored.{Stored}
use Rattle.versioned_steps.specs.Reads.{Read, first_stale, IsFresh, IsStale}
use Rattle.versioned_steps.specs.declared.stale.Stale.{Stale}
use Rattle.versioned_steps.proofs.HistoryLemmas.{value_push, version_push}
use Rattle.versioned_steps.proofs.ReadLemmas.{first_stale_same, first_stale_some, first_stale_none}

-- tests that agree find the same
pub lookup_same : {K X : Type 0} (f g : K → Bool) → ((k : K) → f k ≡ g k) → (es : List (K × X)) → lookup f es ≡ lookup g es
lookup_same f g same [] = refl
lookup_same f g same (e ∷ es) = ap (λ b. cond b (Some e.1) (lookup f es)) (same e.0) ∙ ap (λ o. cond (g e.0) (Some e.1) o) (lookup_same f g same es)

pub found_same : {Part Value : Type 0} (f g : Part → Bool) → ((k : Part) → f k ≡ g k) → (version : ℕ) (recent : List (Part × Value)) (older : List (Part × Stored Value))
    → found_in f version recent older ≡ found_in g version recent older
found_same f g same version recent older =
    ap (λ o. option_map_or (λ value. Some (record { version = version; value = value })) o (lookup f older)) (lookup_same f g same recent)
    ∙ ap (λ o. option_map_or (λ value. Some (record { version = version; value = value })) (lookup g recent) o) (lookup_same f g same older)

-- the last of the recent writes is found the same among the older stored_parts
pub put_one : {Part Value : Type 0} {eq : Part → Part → Bool} (laws : IsEquivalence eq) (q : Part) (version : ℕ) (recent : List (Part × Value)) (write : Part × Value) (older now : List (Part × Stored Value))
    → lookup (eq q) now ≡ (if eq write.0 q then Some (record { version = version; value = write.1 }) else lookup (eq q) older)
    → found_in (eq q) version recent now ≡ found_in (eq q) version (recent ++ write ∷ []) older
put_one {eq = eq} laws q version [] write older now put =
    put
    ∙ ap (λ b. if b then Some (record { version = version; value = write.1 }) else lookup (eq q) older) (laws.symm write.0 q)
    ∙ (elim (eq q write.0) as (λ b. (if b then Some (record { version = version; value = write.1 }) else lookup (eq q) older)
    ≡ option_map_or (λ v. Some (record { version = version; value = v })) (cond b (Some write.1) None) (lookup (eq q) older)) [
      | true ↦ refl
      | false ↦ refl
    ])
put_one {eq = eq} laws q version (x ∷ xs) write older now put =
    elim (eq q x.0) as (λ b. option_map_or (λ v. Some (record { version = version; value = v })) (cond b (Some x.1) (lookup (eq q) xs)) (lookup (eq q) now)
    ≡ option_map_or (λ v. Some (record { version = version; value = v })) (cond b (Some x.1) (lookup (eq q) (xs ++ write ∷ []))) (lookup (eq q) older)) [
      | true ↦ refl
      | false ↦ put_one laws q version xs write older now put
    ]

module _ {Owner Part Value Command Answer : Type 0} (r : Rules Part Value Command Answer) where
  -- a store in which nothing was written stands for the empty history
  pub replays_opening : (s : StoreView Owner Part Value) → s.length ≡ 0 → s.recent ≡ [] → s.older ≡ [] → Replays {Command = Command} {Answer = Answer} r [] s
  unfolding values_after last_touch
  replays_opening s no_length no_recent no_older =
      let stored : (part : Part) → stored_of r s part ≡ record { version = 0; value = r.opening part } =
      λ part. ap (λ l. unwrap_or (found_in (r.same_part part) s.length l s.older) (record { version = 0; value = r.opening part })) no_recent
      ∙ ap (λ l. unwrap_or (found_in (r.same_part part) s.length [] l) (record { version = 0; value = r.opening part })) no_older in
      record {
        length = no_length;
        versions = λ part. ap (λ (x : Stored Value). x.version) (stored part);
        values = λ part. ap (λ (x : Stored Value). x.value) (stored part);
      }

  -- a store that finds each part as before stands for what it stood for
  pub replays_kept : (h : List (Entry Command Answer)) (s t : StoreView Owner Part Value) → t.length ≡ s.length
      → ((part : Part) → found_in (r.same_part part) t.length t.recent t.older ≡ found_in (r.same_part part) s.length s.recent s.older)
      → Replays r h s → Replays r h t
  replays_kept h s t same found replays =
      let stored : (part : Part) → stored_of r t part ≡ stored_of r s part = λ part. ap (λ o. unwrap_or o (record { version = 0; value = r.opening part })) (found part) in
      record {
        length = same ∙ replays.length;
        versions = λ part. ap (λ (x : Stored Value). x.version) (stored part) ∙ replays.versions part;
        values = λ part. ap (λ (x : Stored Value). x.value) (stored part) ∙ replays.values part;
      }

  -- a part that is found among the older stored_parts alone
  pub stored_older : (eq : Part → Part → Bool) → ((x y : Part) → r.same_part x y ≡ eq x y) → (s : StoreView Owner Part Value) (part : Part) (stored : Stored Value)
      → None ≡ lookup (eq part) s.recent → Some stored ≡ lookup (eq part) s.older → stored_of r s part ≡ stored
  stored_older eq agrees s part stored none some =
      ap (λ o. unwrap_or o (record { version = 0; value = r.opening part }))
      (found_same (r.same_part part) (eq part) (agrees part) s.length s.recent s.older
      ∙ ap (λ o. option_map_or (λ value. Some (record { version = s.length; value = value })) o (lookup (eq part) s.older)) (sym none)
      ∙ sym some)

  -- the stored_parts of a store with no recent writes
  stored_before : (s : StoreView Owner Part Value) → s.recent ≡ [] → (part : Part) → stored_of r s part ≡ unwrap_or (lookup (r.same_part part) s.older) (record { version = 0; value = r.opening part })
  stored_before s none part = ap (λ l. unwrap_or (found_in (r.same_part part) s.length l s.older) (record { version = 0; value = r.opening part })) none

  -- the stored_parts once the writes of the next entry are recent
  stored_put : (h : List (Entry Command Answer)) (e : Entry Command Answer) (s t : StoreView Owner Part Value)
      → t.length ≡ s.length + 1 → t.recent ≡ writes_on r (value_of r h) e.command → t.older ≡ s.older → (part : Part)
      → stored_of r t part ≡ unwrap_or (option_map_or (λ value. Some (record { version = s.length + 1; value = value })) (write_to r part (writes_on r (value_of r h) e.command)) (lookup (r.same_part part) s.older)) (record { version = 0; value = r.opening part })
  stored_put h e s t longer writes same part =
      ap (λ n. unwrap_or (found_in (r.same_part part) n t.recent t.older) (record { version = 0; value = r.opening part })) longer
      ∙ ap (λ l. unwrap_or (found_in (r.same_part part) (s.length + 1) l t.older) (record { version = 0; value = r.opening part })) writes
      ∙ ap (λ l. unwrap_or (found_in (r.same_part part) (s.length + 1) (writes_on r (value_of r h) e.command) l) (record { version = 0; value = r.opening part })) same

  -- a store that gets the writes of the next entry stands for the longer history
  pub replays_put : (h : List (Entry Command Answer)) (e : Entry Command Answer) (s t : StoreView Owner Part Value) → s.recent ≡ []
      → t.length ≡ s.length + 1 → t.recent ≡ writes_on r (value_of r h) e.command → t.older ≡ s.older
      → Replays r h s → Replays r (h ++ e ∷ []) t
  replays_put h e s t none longer writes same replays =
      record {
        length = longer ∙ ap (λ n. n + 1) replays.length ∙ sym (length-append h (e ∷ []));
        versions = λ part.
            ap (λ (x : Stored Value). x.version) (stored_put h e s t longer writes same part)
            ∙ (elim (write_to r part (writes_on r (value_of r h) e.command)) as (λ w.
            (unwrap_or (option_map_or (λ value. Some (record { version = s.length + 1; value = value })) w (lookup (r.same_part part) s.older)) (record { version = 0; value = r.opening part })).version
            ≡ (if is_some w then length h + 1 else version_of r h part)) [
              | Some value ↦ ap (λ n. n + 1) replays.length
              | None ↦ sym (ap (λ (x : Stored Value). x.version) (stored_before s none part)) ∙ replays.versions part
            ])
            ∙ sym (version_push r h e part);
        values = λ part.
            ap (λ (x : Stored Value). x.value) (stored_put h e s t longer writes same part)
            ∙ (elim (write_to r part (writes_on r (value_of r h) e.command)) as (λ w.
            (unwrap_or (option_map_or (λ value. Some (record { version = s.length + 1; value = value })) w (lookup (r.same_part part) s.older)) (record { version = 0; value = r.opening part })).value
            ≡ unwrap_or w (value_of r h part)) [
              | Some value ↦ refl
              | None ↦ sym (ap (λ (x : Stored Value). x.value) (stored_before s none part)) ∙ replays.values part
            ])
            ∙ sym (value_push r h e part);
      }

  -- the first stale read by the versions of a store is the first by the versions of its history
  pub check_first : (h : List (Entry Command Answer)) (s : StoreView Owner Part Value) (reads : List (Read Part Value)) → Replays r h s
      → first_stale (λ part. (stored_of r s part).version) reads ≡ first_stale (version_of r h) reads
  check_first h s reads replays = first_stale_same (λ part. (stored_of r s part).version) (version_of r h) replays.versions reads

module _ {Part Value Command Answer : Type 0} (r : Rules Part Value Command Answer) where
  -- what is answered where that read is some, and where there is none
  pub check_some : (h : List (Entry Command Answer)) (reads : List (Read Part Value)) (o : Option (Stale Part)) → o ≡ first_stale (version_of r h) reads
      → IfSome o (λ s. IsStale r h reads s.part s.version)
  check_some h reads None same = tt
  check_some h reads (Some s) same = first_stale_some r h reads s (sym same)

  pub check_none : (h : List (Entry Command Answer)) (reads : List (Read Part Value)) (o : Option (Stale Part)) → o ≡ first_stale (version_of r h) reads
      → IfNone o (All (IsFresh r h) reads)
  check_none h reads None same = first_stale_none (version_of r h) reads (sym same)
  check_none h reads (Some s) same = tt

module _ {Owner Part Value Command Answer : Type 0} (rules : Owner → Rules Part Value Command Answer) (a b : Owner) (same : a ≡ b) (s t : StoreView Owner Part Value) where
  -- what a call on a store says by the rules of its owner, said of an owner that is the same
  pub kept_by : ((h : List (Entry Command Answer)) → Replays (rules a) h s → Replays (rules a) h t) → (h : List (Entry Command Answer)) → Replays (rules b) h s → Replays (rules b) h t
  kept_by kept = let P : Owner → Type 0 = λ o. (h : List (Entry Command Answer)) → Replays (rules o) h s → Replays (rules o) h t in subst P same kept

  pub put_by : (writes : List (Part × Value))
      → ((h : List (Entry Command Answer)) (e : Entry Command Answer) → Replays (rules a) h s → writes ≡ writes_on (rules a) (value_of (rules a) h) e.command → Replays (rules a) (h ++ e ∷ []) t)
      → (h : List (Entry Command Answer)) (e : Entry Command Answer) → Replays (rules b) h s → writes ≡ writes_on (rules b) (value_of (rules b) h) e.command → Replays (rules b) (h ++ e ∷ []) t
  put_by writes put =
      let P : Owner → Type 0 = λ o. (h : List (Entry Command Answer)) (e : Entry Command Answer) → Replays (rules o) h s → writes ≡ writes_on (rules o) (value_of (rules o) h) e.command → Replays (rules o) (h ++ e ∷ []) t in
      subst P same put
