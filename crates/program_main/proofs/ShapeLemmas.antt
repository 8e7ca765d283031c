-- A command with one more subcommand.
use Rattle.std.proofs.Common.{◌≡◌, ◌∙◌, ◌&&◌, Bool, true, false, not, [], Result, Ok, Err, IfOk, IsOkAnd, ap, ap₂}
use Rattle.std.proofs.lemmas.Bool.{and_parts, not-true}
use Rattle.clap.specs.Words.{AddsSubcommand, App, Shape, app_of, with_subcommand}
use Rattle.clap.specs.declared.builder.command.Command.{Command}

-- where all hold, what the third denies doesn't
third_not : (a b c d : Bool) → (a && (b && (not c && d))) ≡ true → c ≡ false
third_not a b c d all = not-true c (and_parts (not c) d (and_parts b _ (and_parts a _ all).1).1).0

-- a subcommand of a plain shape has no global argument, and is added as that shape
pub shape_added : (old sub new : Command) (a : App) (s : Shape) → s.is_plain ≡ true → app_of old ≡ a → app_of sub ≡ record { top = s; subs = [] } → AddsSubcommand old sub new → app_of new ≡ with_subcommand a s
shape_added old sub new a s plain old_is sub_is adds =
    adds.shape (third_not _ _ _ _ (ap (λ (x : App). x.top.is_plain) sub_is ∙ plain))
    ∙ ap₂ (λ (x y : App). with_subcommand x y.top) old_is sub_is

-- the same of one that there was memory for
pub shape_made : {E : Type 0} (old new : Command) (made : Result Command E) (a : App) (s : Shape) → s.is_plain ≡ true → app_of old ≡ a → IfOk made (λ sub. app_of sub ≡ record { top = s; subs = [] }) → IsOkAnd made (λ sub. AddsSubcommand old sub new) → app_of new ≡ with_subcommand a s
shape_made old new (Ok sub) a s plain old_is sub_is adds = shape_added old sub new a s plain old_is sub_is adds
shape_made old new (Err e) a s plain old_is sub_is adds = absurd adds
