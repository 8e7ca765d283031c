use Rattle.std.proofs.Common.{◌≡◌, ◌++◌, codes, rules}
use Rattle.desk_numbers.specs.Strikes.Words.{said_text}
use Rattle.desk_register.specs.Entries.{court_mark}
use Rattle.desk_register.proofs.EntryLemmas.{court_back}
use Rattle.desk_register.proofs.entry.court_entry.Goals as goal

pub returns-clause-file : goal.returns-clause-file
returns-clause-file c =
    let is : c.extend_from_slice-2.new.self.items ≡ ((court_mark ++ said_text c.args.said.now) ++ codes "\n") ++ c.args.file.now = search rules in
    (court_back c.args.said.now c.args.file.now c.extend_from_slice-2.new.self.items c.requires is).0

pub returns-clause-says : goal.returns-clause-says
returns-clause-says c =
    let is : c.extend_from_slice-2.new.self.items ≡ ((court_mark ++ said_text c.args.said.now) ++ codes "\n") ++ c.args.file.now = search rules in
    (court_back c.args.said.now c.args.file.now c.extend_from_slice-2.new.self.items c.requires is).1
