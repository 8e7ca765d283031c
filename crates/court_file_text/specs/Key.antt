-- The keys of a court's file as they are written.
use Rattle.std.specs.Prelude.{ℕ, List, codes}
use Rattle.court_file_text.specs.declared.key.Key.{Key}
use Rattle.court_file_text.specs.declared.key.Key.TheVariants.{Zone, Opens, Closes, From, To, Federal, State, Judges, Rooms, EfilingUntil}

abbrev pub key_name : Key → List ℕ
key_name Zone = codes "zone"
key_name Opens = codes "opens"
key_name Closes = codes "closes"
key_name From = codes "from"
key_name To = codes "to"
key_name Federal = codes "federal"
key_name State = codes "state"
key_name Judges = codes "judges"
key_name Rooms = codes "rooms"
key_name EfilingUntil = codes "efiling_until"
