-- What a watched reader says at the end of a session.
use Rattle.std.proofs.Common.{◌≡◌, ◌∙◌, ◌+◌, ◌<◌, ◌≤◌, ℕ, Bool, true, false, List, [], length, refl, sym, ap, subst, arith}
use Rattle.std.specs.Prelude.{◌≢◌, ◌==◌, ◌-◌, ◌^◌, ◌||◌, ◌&&◌, Option, Result, Ok, Err, IfErr, nat_lt}
use Rattle.std.specs.Io.KnownBytes.{Consumes}
use Rattle.std.specs.Result.{is_err}
use Rattle.std.proofs.lemmas.Result.{IfErr-weaker}
use Rattle.program_streams.specs.declared.watched.Watched.{Watched}
use Rattle.program_streams.specs.Words.{counted, has_ended, moved_nothing}
use Rattle.desk_session.specs.declared.fault.SessionFault.{SessionFault}
use Rattle.desk_session.specs.declared.fault.SessionFault.TheVariants.{Unfinished}
use Rattle.desk_session.specs.Faults.{EndsSession}
use Rattle.desk_session.specs.Lines.{unfinished_of}
use Rattle.desk_session.specs.Served.{AfterBytes}

-- how often it was read from
pub counted_none : (so_far : ℕ) → counted so_far 0 ≤ so_far
counted_none so_far = grind arith

pub counted_more : (so_far turns calls after : ℕ) → counted so_far turns ≤ calls → after ≡ counted calls 1 → counted so_far (turns + 1) ≤ after
counted_more so_far turns calls after least is = grind arith

pub all_calls : (so_far turns calls : ℕ) → counted so_far turns ≤ calls → 2 ^ 64 - 1 ≤ turns → 2 ^ 64 - 1 ≤ calls
all_calls so_far turns calls least all = grind arith

-- a call failed
failed_or : (before : Bool) → (before || true) ≡ true
failed_or true = refl
failed_or false = refl

pub has_failed_now : {T E : Type 0} (before after : Bool) (result : Result T E) (error : E) → after ≡ (before || is_err result) → result ≡ Err error → after ≡ true
has_failed_now before after result error is failed = is ∙ ap (λ r. before || is_err r) failed ∙ failed_or before

-- a read answered that there are no more bytes
pub has_ended_now : {E : Type 0} (before after : Bool) (result : Result ℕ E) (count : ℕ) (buffer : List ℕ) → after ≡ (before || moved_nothing result buffer) → result ≡ Ok count → count ≡ 0 → 0 < length buffer → after ≡ true
has_ended_now true after result count buffer is ok none room = is
has_ended_now false after result count buffer is ok none room =
    let some : nat_lt 0 (length buffer) ≡ true = grind arith in
    is ∙ ap (λ r. moved_nothing r buffer) ok ∙ ap (λ (n : ℕ). (n == 0) && nat_lt 0 (length buffer)) none ∙ some

-- a session that ends at the end of its input
pub ended_so : {R W T : Type 0} (reader : Watched R) (writer : Watched W) (before after : Option (List ℕ)) (bytes begun : List ℕ) (result : Result T SessionFault)
    → Consumes before after bytes → has_ended reader ≡ true → begun ≡ unfinished_of bytes → IfErr result (λ fault. (fault ≡ Unfinished) × (begun ≢ []))
    → IfErr result (λ fault. AfterBytes before after (λ bytes. EndsSession reader writer bytes fault))
ended_so reader writer before after bytes begun result consumed ended is why =
    IfErr-weaker result (λ fault. (fault ≡ Unfinished) × (begun ≢ [])) (λ fault. AfterBytes before after (λ bytes. EndsSession reader writer bytes fault))
    (λ fault so. subst (λ (f : SessionFault). AfterBytes before after (λ bytes. EndsSession reader writer bytes f)) (sym so.0) (bytes, consumed, (ended, λ none. so.1 (is ∙ none)))) why
