-- A decision on all that a command reads is the decision on the parts whose values were read.
use Rattle.std.proofs.Common.{◌≡◌, ℕ, true, false, List, [], ◌∷◌, find, Option, Some, None, IfSome, option_map, refl, sym, ◌∙◌, subst, inl, inr}
use Rattle.std.specs.Option.{option_map_or, unwrap_or}
use Rattle.std.proofs.lemmas.Bool.{cases_Bool, false_from_ne_true, or_parts, false≢true}
use Rattle.hearing_slots.proofs.CallerLemmas.{find-Some}
use Rattle.docket_rows.specs.declared.command.Command.{Command}
use Rattle.docket_rows.specs.declared.hearing.Hearing.{Hearing}
use Rattle.docket_rows.specs.declared.part.PartId.{PartId}
use Rattle.docket_rows.specs.declared.part.PartId.TheVariants.{Court}
use Rattle.docket_rows.specs.declared.part.PartValue.{PartValue}
use Rattle.docket_rows.specs.declared.refusal.Refusal.{Refusal}
use Rattle.docket_rows.specs.Words.{CourtSetup, Parts, Rows, DocketedHearing, AreSound, IsSettable, is_hearing, same_part, hearing_in, read_of, parts_read, parts_of, part_value, is_read, wanted, next_part, refusal, answered, changed, written_on, rows_after, step}
use Rattle.docket_laws.specs.Reads.{AreValuesOf, HasSpan, is_wanted, value_written}
use Rattle.docket_laws.proofs.PartsAfter.{parts_after}
use Rattle.docket_laws.proofs.PartsSeen.{hearing_seen}
use Rattle.docket_laws.proofs.ReadsChanged.{changed_rests, wanted_rests, answered_rests}
use Rattle.docket_laws.proofs.ReadsNumbered.{numbered}
use Rattle.docket_laws.proofs.ReadsParts.{wanted_read, read_value, read_holds}
use Rattle.docket_laws.proofs.ReadsSame.{AgreeOn, refusal_rests}
use Rattle.docket_laws.proofs.ReadsUnread.{unread_unchanged}
use Rattle.docket_laws.proofs.ReadsWritten.{given_read, given_other}

-- nothing was read of a part that isn't among the reads
nothing_read : (reads : List (PartId × PartValue)) (part : PartId) → is_read reads part ≡ false → read_of reads part ≡ None
nothing_read [] part none = refl
nothing_read (r ∷ rs) part none =
    let both = or_parts (same_part part r.0) (is_read rs part) none in
    rw both.0 (nothing_read rs part both.1)

module _ (setup : CourtSetup) (p : Parts) (command : Command) (reads : List (PartId × PartValue)) (ended : next_part setup command reads ≡ None) (values : AreValuesOf p reads) where
  agree : AgreeOn setup p (parts_read setup reads) (wanted setup (parts_read setup reads) command)
  agree part among = read_holds setup p reads values part (wanted_read setup command reads ended part among)

  -- the days have one span, whether they were read or not
  same_from : HasSpan setup p → p.days.from ≡ (parts_read setup reads).days.from
  unfolding parts_read
  same_from span = elim (cases_Bool (is_read reads Court)) [
    | inl read ↦ rw (read_value p reads values Court read) refl
    | inr unread ↦ rw (nothing_read reads Court unread) span.from
  ]

  same_to : HasSpan setup p → p.days.to ≡ (parts_read setup reads).days.to
  unfolding parts_read
  same_to span = elim (cases_Bool (is_read reads Court)) [
    | inl read ↦ rw (read_value p reads values Court read) refl
    | inr unread ↦ rw (nothing_read reads Court unread) span.to
  ]

  pub refusal_read : HasSpan setup p → refusal setup (parts_read setup reads) command ≡ refusal setup p command
  refusal_read span = sym (refusal_rests setup p (parts_read setup reads) command (same_from span) (same_to span) agree)

  pub answered_read : HasSpan setup p → answered setup (parts_read setup reads) command ≡ answered setup p command
  answered_read span = sym (answered_rests setup p (parts_read setup reads) command (same_from span) (same_to span) agree)

  pub changed_read : refusal setup p command ≡ None → (part : PartId) → is_read reads part ≡ true → changed (parts_read setup reads) command part ≡ changed p command part
  changed_read made part read =
      sym (changed_rests setup p (parts_read setup reads) command (numbered setup p command made) agree part (read_holds setup p reads values part read))

  -- a part that wasn't read isn't wanted by what the parts hold either
  unwanted : refusal setup p command ≡ None → (part : PartId) → is_read reads part ≡ false → is_wanted setup p command part ≡ false
  unwanted made part unread =
      false_from_ne_true _ (λ among.
      let same = wanted_rests setup p (parts_read setup reads) command (numbered setup p command made) agree in
      false≢true (sym unread ∙ wanted_read setup command reads ended part (rw same at among)))

  -- what is written into each part
  pub written_made : ((case motion : ℕ) → IfSome (hearing_in p case motion) (IsSettable setup)) → HasSpan setup p → refusal setup p command ≡ None → (part : PartId) → value_written (written_on setup command reads) part ≡ changed p command part
  unfolding written_on
  written_made settable span made part =
      let here : refusal setup (parts_read setup reads) command ≡ None = refusal_read span ∙ made in
      elim (cases_Bool (is_read reads part)) [
        | inl read ↦ rw here (given_read (changed (parts_read setup reads) command) reads part read ∙ changed_read made part read)
        | inr unread ↦
            rw here (given_other (changed (parts_read setup reads) command) reads part unread ∙ sym (unread_unchanged setup p settable command made part (unwanted made part unread)))
      ]

  pub written_refused : (r : Refusal) → HasSpan setup p → refusal setup p command ≡ Some r → written_on setup command reads ≡ []
  unfolding written_on
  written_refused r span refused =
      let here : refusal setup (parts_read setup reads) command ≡ Some r = refusal_read span ∙ refused in
      rw here refl

-- the hearings that the parts of sound rows show can be set
pub hearings_shown : (setup : CourtSetup) (rows : Rows) → AreSound setup rows → (case motion : ℕ) → IfSome (hearing_in (parts_of rows) case motion) (IsSettable setup)
hearings_shown setup rows sound case motion =
    let P : Option Hearing → Type 0 = λ o. IfSome o (IsSettable setup) in
    subst P (sym (hearing_seen setup rows sound case motion)) (shown (find (is_hearing case motion) rows.hearings) refl) where
      shown : (found : Option DocketedHearing) → find (is_hearing case motion) rows.hearings ≡ found → IfSome (option_map (λ (h : DocketedHearing). h.hearing) found) (IsSettable setup)
      shown None is = tt
      shown (Some h) is =
          let first = find-Some (is_hearing case motion) rows.hearings h is in
          subst (λ (x : DocketedHearing). IsSettable setup x.hearing) first.stands (sound.hearings_settable first.place h first.within)

-- the days of sound rows have the span of the court's file
pub rows_span : (setup : CourtSetup) (rows : Rows) → AreSound setup rows → HasSpan setup (parts_of rows)
unfolding parts_of
rows_span setup rows sound = record { from = sound.first_day; to = sound.last_day }

module _ (setup : CourtSetup) (rows : Rows) (sound : AreSound setup rows) (command : Command) (reads : List (PartId × PartValue)) (ended : next_part setup command reads ≡ None) (values : AreValuesOf (parts_of rows) reads) where
  -- On all that is read of the parts of rows the answer is that of the step, and the parts of the rows after it are what is
  -- written, and where nothing is written what they were.
  pub decided_answer : answered setup (parts_read setup reads) command ≡ (step setup rows command).1
  unfolding step
  decided_answer = answered_read setup (parts_of rows) command reads ended values (rows_span setup rows sound)

  pub decided_parts : (part : PartId) → part_value (parts_of (step setup rows command).0) part ≡ unwrap_or (value_written (written_on setup command reads) part) (part_value (parts_of rows) part)
  unfolding step
  decided_parts part = by (refusal setup (parts_of rows) command) refl where
    by : (found : Option Refusal) → refusal setup (parts_of rows) command ≡ found → part_value (parts_of (option_map_or (λ r. rows) (refusal setup (parts_of rows) command) (rows_after rows command))) part ≡ unwrap_or (value_written (written_on setup command reads) part) (part_value (parts_of rows) part)
    by None made =
        let here = written_made setup (parts_of rows) command reads ended values (hearings_shown setup rows sound) (rows_span setup rows sound) made part in
        rw (made, here) (parts_after setup rows command sound made part)
    by (Some r) refused =
        let here = written_refused setup (parts_of rows) command reads ended values r (rows_span setup rows sound) refused in
        rw (refused, here) refl
