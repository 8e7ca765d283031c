use Rattle.std.proofs.Common.{◌≡◌, ◌<◌, ◌≤◌, ◌-◌, ℕ, Bool, length, get_or}
use Rattle.court_days.specs.Days.Table.{next_entry, last_entry, AreEntries, closed_at}
use Rattle.court_days.proofs.days.table.close.Given as goal

-- the places so far are mended, and those after them are unchanged
abbrev pub invariant-run : goal.invariant-run
invariant-run l = record {
  within : l.place ≤ length l.entries;
  behind : l.fn.at < l.place;
  length_same : length l.entries ≡ length l.fn.entries;
  made : (test : ℕ → Bool) → AreEntries test l.fn.entries → (k : ℕ) → k < l.place → get_or l.entries k 0 ≡ next_entry (closed_at l.fn.at test k) (last_entry (closed_at l.fn.at test) k);
  kept : (k : ℕ) → l.place ≤ k → get_or l.entries k 0 ≡ get_or l.fn.entries k 0;
  last : (test : ℕ → Bool) → AreEntries test l.fn.entries → l.last ≡ last_entry (closed_at l.fn.at test) l.place;
}

abbrev pub decreases-run : goal.decreases-run
decreases-run l = length l.entries - l.place
