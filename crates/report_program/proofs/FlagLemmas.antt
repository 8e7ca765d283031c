-- A flag, as it is read of its text.
use Rattle.std.proofs.Common.{◌≡◌, Bool, true, false, codes, Option, Some, None, ap, refl}
use Rattle.clap.specs.Words.{Text}
use Rattle.report_program.specs.Asked.{IsFlag}

-- a flag that is read is the one that its text says
pub flag_held : (held : Option Text) (given : Bool) → (held ≡ None → given ≡ false) → (held ≡ Some (codes "true") → given ≡ true) → (held ≡ Some (codes "false") → given ≡ false) → IsFlag held given
flag_held None given none told denied = none refl
flag_held (Some text) given none told denied = ((λ is. told (ap Some is)), (λ is. denied (ap Some is)))
