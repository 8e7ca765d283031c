-- What a parse of the command line holds: its two numbers.
use Rattle.std.proofs.Common.{◌≡◌, ◌∙◌, ◌<◌, ◌≤◌, ◌^◌, List, [], ◌∷◌, Option, Some, None, Result, Ok, ap, arith, false, true, length, map, option_map, refl, subst, sym, inl, inr, zero, suc, codes, slice_index, ℕ}
use Rattle.std.specs.List.{list_all, slice_index_or}
use Rattle.std.specs.Prelude.{IsSome, pos, unwrap_or}
use Rattle.std.specs.Str.{bytes_eq}
use Rattle.std.specs.Str.Parse.{ExplainsUnsignedError, HasUnsignedDigitsIfOk, ParsesUnsigned}
use Rattle.std.specs.declared.num.ParseIntError.{ParseIntError}
use Rattle.std.proofs.lemmas.List.{length-map}
use Rattle.clap.specs.Lexer.{without_minus}
use Rattle.clap.specs.Texts.{items_of}
use Rattle.clap.specs.Facts.{WantsDefault, args_of, groups_of, least_values, parser_of_value}
use Rattle.clap.specs.Built.{IsAuto, IsParsedFrom, SameRules}
use Rattle.clap.specs.Matches.{ReadsOne, found_of, one_text}
use Rattle.clap.specs.Simple.{HasMatchesOf, HasReadyLeaves, app_of, is_ready, is_ready_leaf, is_simple, matches_of, shape_of}
use Rattle.clap.specs.Walk.{Rule, Text, one_of, rows_of, rule_of, texts}
use Rattle.clap.specs.declared.builder.action.ArgAction.TheVariants.{Set}
use Rattle.clap.specs.declared.builder.arg.Arg.{Arg}
use Rattle.clap.specs.declared.builder.command.Command.{Command}
use Rattle.clap.specs.declared.builder.value_parser.ValueParser.TheVariants.{Signed}
use Rattle.clap.specs.declared.parser.matches.ArgMatches.{ArgMatches}
use Rattle.clap.proofs.CallerLemmas.{default_present, same_rules_by_id}
use Rattle.clap.proofs.CallerReads.{signed_reads}
use Rattle.clap.proofs.SimpleLemmas.{all_simple, plain_fields, ready_simple, simple_groups}
use Rattle.clap.proofs.WalkLemmas.{one_text-rows}
use Rattle.program_main.specs.Options.CommandLine.{clerks_rule, command_line, journal_rule, most_clerks}
use Rattle.program_main.specs.Options.Held.{number_held, number_written}
use Rattle.program_main.proofs.OptionsLemmas.ParseLemmas.{EachTakesNumber, ShowsNumber, TakesNumber, found_at, shows_number}

-- a list whose images are two values has two elements
two_of : {A B : Type 0} (f : A → B) (xs : List A) (b c : B) → map f xs ≡ b ∷ c ∷ [] → (x : A) × (y : A) × (xs ≡ x ∷ y ∷ []) × (f x ≡ b) × (f y ≡ c)
two_of f [] b c e = absurd (omega (arith, ap length e))
two_of f (x ∷ []) b c e = absurd (omega (arith, ap length e))
two_of f (x ∷ y ∷ []) b c e = (x, y, refl, ap (λ l. slice_index_or l 0 b) e, ap (λ l. slice_index_or l 1 b) e)
two_of f (x ∷ y ∷ z ∷ rest) b c e = absurd (omega (arith, ap length e))

-- the place of an argument among two, by its id
abbrev OnlyAt : List Arg → ℕ → List ℕ → Type 0
OnlyAt xs k id = (j : ℕ) (e : Arg) → j < length xs → bytes_eq (slice_index_or xs j e).id.now id ≡ true → j ≡ k

first_only : (a b : Arg) → bytes_eq b.id.now a.id.now ≡ false → OnlyAt (a ∷ b ∷ []) 0 a.id.now
first_only a b other zero e lt same = refl
first_only a b other (suc zero) e lt same =
    let bad : false ≡ true = sym other ∙ same in
    cc
first_only a b other (suc (suc j)) e lt same = absurd (omega arith)

second_only : (a b : Arg) → bytes_eq a.id.now b.id.now ≡ false → OnlyAt (a ∷ b ∷ []) 1 b.id.now
second_only a b other zero e lt same =
    let bad : false ≡ true = sym other ∙ same in
    cc
second_only a b other (suc zero) e lt same = refl
second_only a b other (suc (suc j)) e lt same = absurd (omega arith)

-- the command's argument at k is the one with its id, takes a number from low to high, and has a default
pub record IsNumberAt (c : Command) (k : ℕ) (a : Arg) (low high : ℕ) : Type 0 where
  pub here : k < length (args_of c)
  pub is : slice_index_or (args_of c) k a ≡ a
  pub only : OnlyAt (args_of c) k a.id.now
  pub takes : (a.action ≡ Some Set) × (a.value_parser ≡ Some (Signed (pos low) (pos high))) × (a.num_vals ≡ None)
  pub default : 0 < length (items_of a.default_vals)
  pub named : a.id.now ≡ [] → ⊥
  pub own : IsAuto a → ⊥

-- the command has no groups and no global arguments, and its arguments none of the rarer settings
pub record IsPlainHere (c : Command) : Type 0 where
  pub ready : is_ready (shape_of c) ≡ true
  pub leaves : HasReadyLeaves c
  pub rules : all_simple (shape_of c).rules ≡ true
  pub plain : (shape_of c).is_plain ≡ true

module _ (c : Command) (m : ArgMatches) (p : IsParsedFrom c m) (plain : IsPlainHere c) (k : ℕ) (a : Arg) (low high : ℕ) (at : IsNumberAt c k a low high) where
  same_takes : (x : Arg) → a.val_delim ≡ None → SameRules a x → TakesNumber low high x
  same_takes x delimiter same =
      let one : 1 ≤ least_values a = rw at.takes.2 (omega arith) in
      (same.action Set at.takes.0, ap parser_of_value (same.parser _ at.takes.1), same.least at.takes.0 one, same.val_delim ∙ delimiter)

  delimiter_none : a.val_delim ≡ None
  delimiter_none = subst (λ (x : Arg). x.val_delim ≡ None) at.is ((ready_simple c plain.ready plain.leaves).args k a at.here).delimiter

  conditions_none : a.default_vals_ifs.items ≡ []
  conditions_none = subst (λ (x : Arg). x.default_vals_ifs.items ≡ []) at.is ((ready_simple c plain.ready plain.leaves).args k a at.here).default_ifs

  each_takes : EachTakesNumber p.built a.id.now low high
  each_takes j x lt is same = same_takes x delimiter_none (subst (λ (y : Arg). SameRules y x) at.is
      (same_rules_by_id c m p k a at.here
      (λ i e below equal. at.only i e below (subst (λ (y : Arg). bytes_eq (slice_index_or (args_of c) i e).id.now y.id.now ≡ true) at.is equal))
      (λ auto. at.own (subst IsAuto at.is auto))
      j x lt is (subst (λ (y : Arg). bytes_eq x.id.now y.id.now ≡ true) (sym at.is) same)))

  -- the matches show its number
  pub number_shown : ShowsNumber (found_of m) a.id.now low high
  number_shown =
      let fields = plain_fields c plain.plain in
      let parsed = p.parsed (p.from.globals ∙ fields.globals) in
      let no_groups : groups_of p.built ≡ [] = (p.from.same_groups (simple_groups c plain.rules)).1 ∙ fields.groups in
      let wants : WantsDefault (slice_index_or (args_of c) k a) = subst WantsDefault (sym at.is) (conditions_none, at.default) in
      let has = default_present c m p fields.globals k a at.here wants in
      let there = found_at a.id.now (found_of m).entries.items has.0 has.1 (λ d. subst (λ (y : Arg). bytes_eq (slice_index_or (found_of m).entries.items has.0 d).0.now y.id.now ≡ true) at.is (has.2 d)) in
      shows_number p.built (found_of m) a.id.now low high no_groups at.named each_takes parsed.values there

-- what an argument with the rule of an option has
some_default : (a : Arg) (t : Text) → texts (items_of a.default_vals) ≡ t ∷ [] → 0 < length (items_of a.default_vals)
some_default a t e = omega (arith, sym (length-map (items_of a.default_vals) (λ s. s.now)) ∙ ap length e)

-- what a parse of the command line gives
pub record HoldsOptions (words : List Text) (m : ArgMatches) : Type 0 where
  pub clerks : ShowsNumber (found_of m) (codes "clerks") 1 most_clerks
  pub journal : ShowsNumber (found_of m) (codes "journal") 0 1000000
  pub rows : rows_of (found_of m) ≡ matches_of command_line words

-- an id whose first letter is neither `h` nor `v` belongs to no flag that `clap` adds
not_auto : (a : Arg) (id : List ℕ) → a.id.now ≡ id → (slice_index id 0 ≡ 104 → ⊥) → (slice_index id 0 ≡ 118 → ⊥) → IsAuto a → ⊥
not_auto a id is no_h no_v (inl help) = no_h (ap (λ (t : List ℕ). slice_index t 0) (sym is ∙ help))
not_auto a id is no_h no_v (inr version) = no_v (ap (λ (t : List ℕ). slice_index t 0) (sym is ∙ version))

not_nameless : (a : Arg) (id : List ℕ) → a.id.now ≡ id → 0 < length id → a.id.now ≡ [] → ⊥
not_nameless a id is some none = omega (arith, ap length (sym is ∙ none))

module _ (c : Command) (e : app_of c ≡ command_line) where
  plain_here : IsPlainHere c
  plain_here = record {
    ready = ap (λ a. is_ready a.top) e;
    leaves = ap (λ a. list_all is_ready_leaf a.subs) e;
    rules = ap (λ a. all_simple a.top.rules) e;
    plain = ap (λ a. a.top.is_plain) e;
  }

  arguments : (a : Arg) × (b : Arg) × (args_of c ≡ a ∷ b ∷ []) × (rule_of a ≡ clerks_rule) × (rule_of b ≡ journal_rule)
  arguments = two_of rule_of (args_of c) clerks_rule journal_rule (ap (λ a. a.top.rules) e)

  first_at : (a b : Arg) → args_of c ≡ a ∷ b ∷ [] → rule_of a ≡ clerks_rule → rule_of b ≡ journal_rule → IsNumberAt c 0 a 1 most_clerks
  first_at a b list is other =
      let id : a.id.now ≡ codes "clerks" = ap (λ (r : Rule). r.id) is in
      let id-b : b.id.now ≡ codes "journal" = ap (λ (r : Rule). r.id) other in
      let distinct : bytes_eq b.id.now a.id.now ≡ false = rw (id, id-b) refl in
      record {
        here = rw list (omega arith);
        is = ap (λ l. slice_index_or l 0 a) list;
        only = subst (λ l. OnlyAt l 0 a.id.now) (sym list) (first_only a b distinct);
        takes = (ap (λ (r : Rule). r.action) is, ap (λ (r : Rule). r.parser) is, ap (λ (r : Rule). r.range) is);
        default = some_default a (codes "1") (ap (λ (r : Rule). r.defaults) is);
        named = not_nameless a (codes "clerks") id (omega arith);
        own = not_auto a (codes "clerks") id (λ h. omega (arith, h)) (λ h. omega (arith, h));
      }

  second_at : (a b : Arg) → args_of c ≡ a ∷ b ∷ [] → rule_of a ≡ clerks_rule → rule_of b ≡ journal_rule → IsNumberAt c 1 b 0 1000000
  second_at a b list other is =
      let id : b.id.now ≡ codes "journal" = ap (λ (r : Rule). r.id) is in
      let id-a : a.id.now ≡ codes "clerks" = ap (λ (r : Rule). r.id) other in
      let distinct : bytes_eq a.id.now b.id.now ≡ false = rw (id, id-a) refl in
      record {
        here = rw list (omega arith);
        is = ap (λ l. slice_index_or l 1 b) list;
        only = subst (λ l. OnlyAt l 1 b.id.now) (sym list) (second_only a b distinct);
        takes = (ap (λ (r : Rule). r.action) is, ap (λ (r : Rule). r.parser) is, ap (λ (r : Rule). r.range) is);
        default = some_default b (codes "100000") (ap (λ (r : Rule). r.defaults) is);
        named = not_nameless b (codes "journal") id (omega arith);
        own = not_auto b (codes "journal") id (λ h. omega (arith, h)) (λ h. omega (arith, h));
      }

  pub holds_options : (m : ArgMatches) (words : List Text) → IsParsedFrom c m → HasMatchesOf (app_of c) words m → HoldsOptions words m
  holds_options m words p matches =
      let two = arguments in
      let first = number_shown c m p plain_here 0 two.0 1 most_clerks (first_at two.0 two.1 two.2 two.3 two.4) in
      let second = number_shown c m p plain_here 1 two.1 0 1000000 (second_at two.0 two.1 two.2 two.3 two.4) in
      record {
        clerks = subst (λ (id : List ℕ). ShowsNumber (found_of m) id 1 most_clerks) (ap (λ (r : Rule). r.id) two.3) first;
        journal = subst (λ (id : List ℕ). ShowsNumber (found_of m) id 0 1000000) (ap (λ (r : Rule). r.id) two.4) second;
        rows = (matches (ap is_simple e)).0 ∙ ap (λ a. matches_of a words) e;
      }

-- how a text is read as a number of k bits
abbrev pub ParsesTo : ℕ → List ℕ → Result ℕ ParseIntError → Type 0
ParsesTo k text r = ParsesUnsigned k 10 text r × ExplainsUnsignedError 10 text r × HasUnsignedDigitsIfOk text r

-- what `get_one` says of the number under a name
abbrev pub Gets : ℕ → ArgMatches → Text → Option ℕ → Type 0
Gets k m name r = (t : List ℕ) → one_text (found_of m) name ≡ Some t → ReadsOne (ParsesTo k) t r

-- the number that is read under a name is the one that the matches hold, and it is in the range
abbrev pub IsNumberRead : List Text → Text → ℕ → ℕ → ℕ → Type 0
IsNumberRead words name low high n = (low ≤ n) × (n ≤ high) × (number_held name words ≡ Some n)

number_is : (k : ℕ) (u : List ℕ) (r : Option ℕ) (n : ℕ) → r ≡ Some n → ReadsOne (ParsesTo k) u r → n ≡ number_written u
number_is k u r n is read =
    let at : ParsesTo k u (Ok n) = subst (ReadsOne (ParsesTo k) u) is read in
    at.0.1

number_read : (m : ArgMatches) (words : List Text) (name : Text) (k low high : ℕ) (r : Option ℕ)
    → rows_of (found_of m) ≡ matches_of command_line words → ShowsNumber (found_of m) name low high → high < 2 ^ k → Gets k m name r
    → (n : ℕ) × (r ≡ Some n) × IsNumberRead words name low high n
number_read m words name k low high r rows shows fits reads =
    let read = reads (without_minus shows.0) shows.1 in
    let got = signed_reads ParseIntError (ParsesTo k) k low high shows.0 r read (λ u x g. g.0) fits shows.2 in
    let value = number_is k (without_minus shows.0) r got.0 got.1 read in
    let held : one_of name (matches_of command_line words) ≡ Some (without_minus shows.0) = ap (one_of name) (sym rows) ∙ sym (one_text-rows (found_of m) name) ∙ shows.1 in
    (got.0, got.1, (got.2, got.3, ap (option_map number_written) held ∙ ap Some (sym value)))

clerks_read : (words : List Text) (m : ArgMatches) (r : Option ℕ) → HoldsOptions words m → Gets 8 m (codes "clerks") r
    → (n : ℕ) × (r ≡ Some n) × IsNumberRead words (codes "clerks") 1 most_clerks n
clerks_read words m r holds reads = number_read m words (codes "clerks") 8 1 most_clerks r holds.rows holds.clerks (omega arith) reads

journal_read : (words : List Text) (m : ArgMatches) (r : Option ℕ) → HoldsOptions words m → Gets 32 m (codes "journal") r
    → (n : ℕ) × (r ≡ Some n) × IsNumberRead words (codes "journal") 0 1000000 n
journal_read words m r holds reads = number_read m words (codes "journal") 32 0 1000000 r holds.rows holds.journal (omega arith) reads

-- two answers of one thing
pub one_number : (o : Option ℕ) (n v : ℕ) → o ≡ Some n → o ≡ Some v → n ≡ v
one_number o n v a b = ap (λ x. unwrap_or x 0) (sym a ∙ b)

some_of : {B : ℕ → Type 0} (r : Option ℕ) → (n : ℕ) × (r ≡ Some n) × B n → IsSome r
some_of r got = rw got.1 refl

at_value : {B : ℕ → Type 0} (r : Option ℕ) (v : ℕ) → (n : ℕ) × (r ≡ Some n) × B n → r ≡ Some v → B v
at_value {B} r v got is = subst B (one_number r got.0 v got.1 is) got.2

pub clerks_there : (words : List Text) (m : ArgMatches) (r : Option ℕ) → HoldsOptions words m → Gets 8 m (codes "clerks") r → IsSome r
clerks_there words m r holds reads = some_of {B = IsNumberRead words (codes "clerks") 1 most_clerks} r (clerks_read words m r holds reads)

pub clerks_are : (words : List Text) (m : ArgMatches) (r : Option ℕ) (v : ℕ) → HoldsOptions words m → Gets 8 m (codes "clerks") r → r ≡ Some v
    → IsNumberRead words (codes "clerks") 1 most_clerks v
clerks_are words m r v holds reads is = at_value {B = IsNumberRead words (codes "clerks") 1 most_clerks} r v (clerks_read words m r holds reads) is

pub journal_there : (words : List Text) (m : ArgMatches) (r : Option ℕ) → HoldsOptions words m → Gets 32 m (codes "journal") r → IsSome r
journal_there words m r holds reads = some_of {B = IsNumberRead words (codes "journal") 0 1000000} r (journal_read words m r holds reads)

pub journal_is : (words : List Text) (m : ArgMatches) (r : Option ℕ) (v : ℕ) → HoldsOptions words m → Gets 32 m (codes "journal") r → r ≡ Some v
    → IsNumberRead words (codes "journal") 0 1000000 v
journal_is words m r v holds reads is = at_value {B = IsNumberRead words (codes "journal") 0 1000000} r v (journal_read words m r holds reads) is
