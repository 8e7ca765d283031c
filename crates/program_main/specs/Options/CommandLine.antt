-- What the program's command line may have, as `clap` reads it.
use Rattle.std.specs.Prelude.{ℕ, pos, Some, true, [], ◌∷◌, codes}
use Rattle.clap.specs.Words.{App, Rule, new_rule, with_rule}
use Rattle.clap.specs.Simple.{new_shape}
use Rattle.clap.specs.declared.builder.action.ArgAction.TheVariants.{Set}
use Rattle.clap.specs.declared.builder.value_parser.ValueParser.TheVariants.{Signed}

-- the most clerks that there may be
abbrev pub most_clerks : ℕ
most_clerks = 64

-- `--clerks N`, once at most: how many clerks there are, at most 64, and 1 where the words don't say
abbrev pub clerks_rule : Rule
clerks_rule = record (new_rule (codes "clerks")) {
  long = Some (codes "clerks");
  action = Some Set;
  value_names = 1;
  defaults = codes "1" ∷ [];
  parser = Some (Signed (pos 1) (pos most_clerks));
}

-- `--journal N`, once at most: how many entries the journal takes, at most 1,000,000, and 100,000 where the words don't
-- say
abbrev pub journal_rule : Rule
journal_rule = record (new_rule (codes "journal")) {
  long = Some (codes "journal");
  action = Some Set;
  value_names = 1;
  defaults = codes "100000" ∷ [];
  parser = Some (Signed (pos 0) (pos 1000000));
}

-- the program's name, which the words leave out, with the help and the version that `clap` adds
abbrev pub bare_command : App
bare_command = record {
  top = record (new_shape (codes "clerk_office")) { no_binary_name = true; has_version = true };
  subs = [];
}

-- the whole: two options, and no other argument
abbrev pub command_line : App
command_line = with_rule (with_rule bare_command clerks_rule) journal_rule
