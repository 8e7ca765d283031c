-- What a parse holds for an argument that has a default and takes one number.
use Rattle.std.proofs.Common.{◌≡◌, ◌∙◌, ◌<◌, ◌≤◌, Bool, List, [], ◌∷◌, Option, Some, None, ap, arith, cond, false, true, inl, inr, is_some, length, refl, subst, sym, zero, suc, ℕ}
use Rattle.std.specs.List.{All, find, slice_index_or}
use Rattle.std.specs.Prelude.{option_map, pos, slice_get}
use Rattle.std.specs.Str.{bytes_eq}
use Rattle.std.specs.Borrow.{Bor}
use Rattle.std.proofs.lemmas.Slice.Eq.{bytes_eq-Decides}
use Rattle.clap.specs.Lexer.{without_minus}
use Rattle.clap.specs.Facts.{Entry, EntryPasses, HasReading, PassesArg, ValuesPass, args_of, groups_of, least_values, parser_of}
use Rattle.clap.specs.Matches.{matched_of, one_text}
use Rattle.clap.specs.Values.{Accepts, IsSignedIn, read_as, reading_of}
use Rattle.clap.specs.declared.builder.action.ArgAction.TheVariants.{Count, Set}
use Rattle.clap.specs.declared.builder.arg.Arg.{Arg}
use Rattle.clap.specs.declared.builder.command.Command.{Command}
use Rattle.clap.specs.declared.builder.value_parser.Reading.{Reading}
use Rattle.clap.specs.declared.builder.value_parser.Reading.TheVariants.{WithoutMinus}
use Rattle.clap.specs.declared.builder.value_parser.ValueParser.{ValueParser}
use Rattle.clap.specs.declared.builder.value_parser.ValueParser.TheVariants.{Signed}
use Rattle.clap.specs.declared.parser.matches.Found.{Found}
use Rattle.clap.specs.declared.parser.matches.MatchedArg.{MatchedArg}
use Rattle.clap.proofs.CallerLemmas.{entry_by_id}

-- where an entry has the id, the search for the id finds one
pub found_at : (id : List ℕ) (xs : List Entry) (i : ℕ) → i < length xs → ((d : Entry) → bytes_eq (slice_index_or xs i d).0.now id ≡ true)
    → is_some (option_map (λ e. e.1) (find (λ e. bytes_eq e.0.now id) xs)) ≡ true
found_at id [] i lt hit = absurd (omega arith)
found_at id (x ∷ xs) zero lt hit = rw (hit x) refl
found_at id (x ∷ xs) (suc i) lt hit = go (bytes_eq x.0.now id) (found_at id xs i (omega arith) hit)
  where
    go : (b : Bool) → is_some (option_map (λ (e : Entry). e.1) (find (λ e. bytes_eq e.0.now id) xs)) ≡ true
        → is_some (option_map (λ (e : Entry). e.1) (cond b (Some x) (find (λ e. bytes_eq e.0.now id) xs))) ≡ true
    go true rest = refl
    go false rest = rest

-- the argument takes one number from low to high
abbrev pub TakesNumber : ℕ → ℕ → Arg → Type 0
TakesNumber low high a = (a.action ≡ Some Set) × (parser_of a ≡ Signed (pos low) (pos high)) × (1 ≤ least_values a) × (a.val_delim ≡ None)

-- and so does each argument of the command with this id
abbrev pub EachTakesNumber : Command → List ℕ → ℕ → ℕ → Type 0
EachTakesNumber c id low high = (j : ℕ) (x : Arg) → j < length (args_of c) → slice_index_or (args_of c) j x ≡ x → bytes_eq x.id.now id ≡ true → TakesNumber low high x

-- the matches show a number from low to high under this name
abbrev pub ShowsNumber : Found → List ℕ → ℕ → ℕ → Type 0
ShowsNumber f name low high = (text : List ℕ) × (one_text f name ≡ Some (without_minus text)) × IsSignedIn (pos low) (pos high) text

first_value_of : (P : Bor (List ℕ) → Type 0) (how : Reading) (vs : List (Bor (List ℕ))) → All P vs → 0 < length vs
    → (v : Bor (List ℕ)) × (option_map (λ s. read_as how s.now) (slice_get vs 0) ≡ Some (read_as how v.now)) × P v
first_value_of P how [] all some = absurd (omega arith)
first_value_of P how (v ∷ vs) all some = (v, refl, all 0 v some)

text_at : (f : Found) (id : List ℕ) (x : MatchedArg) (t : List ℕ) → matched_of f id ≡ Some x → x.reading ≡ WithoutMinus
    → option_map (λ s. read_as WithoutMinus s.now) (slice_get x.vals.items 0) ≡ Some t → one_text f id ≡ Some t
text_at f id x t found how is = rw (found, how) is

module _ (c : Command) (f : Found) (id : List ℕ) (low high : ℕ) (no_groups : groups_of c ≡ []) (named : id ≡ [] → ⊥) (rules : EachTakesNumber c id low high) where
  -- a value that passed is such a number
  number_passed : (v : List ℕ) → PassesArg c id v → IsSignedIn (pos low) (pos high) v
  number_passed v pass =
      let takes = rules pass.0 pass.1 pass.2 pass.3 pass.4.0 in
      subst (λ (q : ValueParser). Accepts pass.1.ignore_case q v) takes.1 pass.4.1

  read_without_minus : (r : Reading) → HasReading c id r → r ≡ WithoutMinus
  read_without_minus r has =
      let takes = rules has.0 has.1 has.2 has.3 has.4.0 in
      sym has.4.1 ∙ ap reading_of takes.1

  -- an entry of this id is no group's
  no_group : (e : Entry) → e.0.now ≡ id → EntryPasses c e → e.1.is_group ≡ true → ⊥
  no_group e key pass group = elim (pass.3 group) [
    | inl empty ↦ named (sym key ∙ empty)
    | inr lots ↦
        let bad : 0 < 0 = rw no_groups at lots in
        omega arith
  ]

  all_pass : (e : Entry) → e.0.now ≡ id → EntryPasses c e → All (λ v. IsSignedIn (pos low) (pos high) v.now) e.1.vals.items
  all_pass e key pass = elim pass.0 [
    | inl group ↦ absurd (no_group e key pass group)
    | inr values ↦ λ k d lt. number_passed (slice_index_or e.1.vals.items k d).now (subst (λ (w : List ℕ). PassesArg c w (slice_index_or e.1.vals.items k d).now) key (values k d lt))
  ]

  -- it has a value
  has_value : (e : Entry) → e.0.now ≡ id → EntryPasses c e → 0 < length e.1.vals.items
  has_value e key pass = elim pass.1 [
    | inl group ↦ absurd (no_group e key pass group.0)
    | inr (inl some) ↦ some
    | inr (inr (inl count)) ↦
        let any = count.1 in
        let takes = rules any.0 any.1 any.2 any.3 (rw key at any.4.0) in
        let bad : Set ≡ Count = rw takes.0 at any.4.1 in
        cc
    | inr (inr (inr any)) ↦
        let takes = rules any.0 any.1 any.2 any.3 (rw key at any.4.0) in
        elim any.4.1 [
          | inl none ↦
              let one = takes.2 in
              absurd (omega arith)
          | inr has ↦
              let bad : false ≡ true = rw takes.3 at has in
              cc
        ]
  ]

  is_read : (e : Entry) → e.0.now ≡ id → EntryPasses c e → e.1.reading ≡ WithoutMinus
  is_read e key pass = elim pass.4 [
    | inl group ↦ absurd (no_group e key pass group)
    | inr has ↦ read_without_minus e.1.reading (subst (λ (w : List ℕ). HasReading c w e.1.reading) key has)
  ]

  entry_shows : (x : MatchedArg) → matched_of f id ≡ Some x → ((e : Entry) × (e.1 ≡ x) × (bytes_eq e.0.now id ≡ true) × EntryPasses c e) → ShowsNumber f id low high
  entry_shows x found got =
      let key : got.0.0.now ≡ id = (bytes_eq-Decides got.0.0.now id).0 got.2 in
      let first = first_value_of (λ v. IsSignedIn (pos low) (pos high) v.now) WithoutMinus got.0.1.vals.items (all_pass got.0 key got.3) (has_value got.0 key got.3) in
      let found_entry : matched_of f id ≡ Some got.0.1 = found ∙ ap Some (sym got.1) in
      (first.0.now, text_at f id got.0.1 (without_minus first.0.now) found_entry (is_read got.0 key got.3) first.1, first.2)

  -- matches that passed, with an entry of this id, show such a number
  pub shows_number : ValuesPass c f → is_some (matched_of f id) ≡ true → ShowsNumber f id low high
  shows_number values has = go (matched_of f id) refl has
    where
      go : (o : Option MatchedArg) → matched_of f id ≡ o → is_some (matched_of f id) ≡ true → ShowsNumber f id low high
      go None found some =
          let bad : false ≡ true = rw found at some in
          cc
      go (Some x) found some = entry_shows x found (entry_by_id (EntryPasses c) f.entries.items id x values found)
