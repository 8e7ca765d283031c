-- The test of answers says whether they are the same.
use Rattle.std.proofs.Common.{◌≡◌, ℤ, true, Option, arith}
use Rattle.std.proofs.lemmas.Grind.{common_steps}
use Rattle.rule6.specs.declared.timeliness.Shown.{Shown}
use Rattle.docket_rows.specs.declared.answer.Answer.{Answer}
use Rattle.docket_rows.specs.declared.refusal.Refusal.{Refusal}
use Rattle.shared_docket.specs.SameAnswer.{same_day, same_shown, same_refusal, same_answer}

refusals_equal : (x y : Refusal) → same_refusal x y ≡ true → x ≡ y
refusals_equal x y h = grind (arith, common_steps)

refusal_itself : (x : Refusal) → same_refusal x x ≡ true
refusal_itself x = grind (arith, common_steps)

shown_equal : (x y : Shown) → same_shown x y ≡ true → x ≡ y
shown_equal x y h = grind (arith, common_steps)

shown_itself : (x : Shown) → same_shown x x ≡ true
shown_itself x = grind (arith, common_steps)

days_equal : (x y : Option ℤ) → same_day x y ≡ true → x ≡ y
days_equal x y h = grind (arith, common_steps)

day_itself : (x : Option ℤ) → same_day x x ≡ true
day_itself x = grind (arith, common_steps)

pub answers_equal : (x y : Answer) → same_answer x y ≡ true → x ≡ y
answers_equal x y h = grind (arith, common_steps, days_equal, refusals_equal, shown_equal)

pub answer_itself : (x : Answer) → same_answer x x ≡ true
answer_itself x = grind (arith, common_steps, day_itself, refusal_itself, shown_itself)
