use Rattle.std.proofs.Common.{◌≡◌, [], ◌∷◌}
use Rattle.std.specs.Str.{bytes_eq}
use Rattle.court_clock.proofs.DayLemmas.TextLemmas.{written_digits}
use Rattle.court_clock.proofs.day.date.is_text_of.Goals as goal

pub returns : goal.returns
returns c =
    let compared : c.eq.result ≡ bytes_eq (c.tens.result ∷ c.ones.result ∷ c.tens-2.result ∷ c.ones-2.result ∷ 45 ∷ c.tens-3.result ∷ c.ones-3.result ∷ 45 ∷ c.tens-4.result ∷ c.ones-4.result ∷ []) c.as_bytes.result.now = c.eq.ensures in
    let digits = rw (c.tens.ensures, c.ones.ensures, c.tens-2.ensures, c.ones-2.ensures, c.tens-3.ensures, c.ones-3.ensures, c.tens-4.ensures, c.ones-4.ensures, c.as_bytes.ensures.value) at compared in
    rw (written_digits c.args.date c.requires) (rw (c.from-month.ensures, c.from-day.ensures, c.year_number-year.ensures.value, c.to_plain-date.ensures) at digits)
