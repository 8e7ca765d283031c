-- The text of an account.
use Rattle.std.proofs.Common.{◌≡◌, ◌==◌, ◌≤◌, ℕ, List, [], ◌∷◌, ◌++◌, false, true, length, lit≤, refl, arith, length-append}
use Rattle.std.specs.Prelude.{codes, filter, slice_get, unwrap_or}
use Rattle.std.specs.List.{AllPass, list_all}
use Rattle.std.proofs.lemmas.List.{length-take}
use Rattle.std.proofs.lemmas.List.Elements.{All-append, All-take, filter_passes}
use Rattle.std.proofs.lemmas.List.Sums.{AllPass-from_list_all}
use Rattle.desk_session.specs.Account.{account_text, is_printable, name_or_number, or_mark, shown, text_lines, user_number}

-- a text that has something in it
pub or_mark_some : (text : List ℕ) → (length text == 0) ≡ false → or_mark text ≡ text
or_mark_some [] none = cc
or_mark_some (byte ∷ bytes) some = refl

or_mark_short : (text : List ℕ) → length text ≤ 64 → length (or_mark text) ≤ 64
or_mark_short [] short = lit≤ tt
or_mark_short (byte ∷ bytes) short = short

shown_short : (text : List ℕ) → length (shown text) ≤ 64
shown_short text = or_mark_short _ (omega (arith, length-take 64 (filter is_printable text)))

-- an account fits the stamp of an entry
pub account_is_short : (status users host : List ℕ) → length (account_text status users host) ≤ 200
unfolding account_text
account_is_short status users host =
    simp length-append (omega (arith, shown_short (name_or_number users (user_number status)), shown_short (unwrap_or (slice_get (text_lines host) 0) []), shown_short (unwrap_or (user_number status) [])))

or_mark_printable : (text : List ℕ) → AllPass is_printable text → AllPass is_printable (or_mark text)
or_mark_printable [] all = AllPass-from_list_all is_printable (codes "?") refl
or_mark_printable (byte ∷ bytes) all = all

shown_printable : (text : List ℕ) → AllPass is_printable (shown text)
shown_printable text = or_mark_printable _ (All-take (λ byte. is_printable byte ≡ true) 64 (filter is_printable text) (filter_passes is_printable text))

joined : (some more : List ℕ) → AllPass is_printable some → AllPass is_printable more → AllPass is_printable (some ++ more)
joined some more = All-append (λ byte. is_printable byte ≡ true) some more

literal : (text : List ℕ) → list_all is_printable text ≡ true → AllPass is_printable text
literal text all = AllPass-from_list_all is_printable text all

pieces_printable : (name host number : List ℕ) → AllPass is_printable (shown name ++ codes "@" ++ shown host ++ codes " (" ++ shown number ++ codes ")")
pieces_printable name host number =
    let at : AllPass is_printable (shown name ++ codes "@") = joined (shown name) (codes "@") (shown_printable name) (literal (codes "@") refl) in
    let on : AllPass is_printable (shown name ++ codes "@" ++ shown host) = joined (shown name ++ codes "@") (shown host) at (shown_printable host) in
    let open_at : AllPass is_printable (shown name ++ codes "@" ++ shown host ++ codes " (") = joined (shown name ++ codes "@" ++ shown host) (codes " (") on (literal (codes " (") refl) in
    joined (shown name ++ codes "@" ++ shown host ++ codes " (" ++ shown number) (codes ")") (joined (shown name ++ codes "@" ++ shown host ++ codes " (") (shown number) open_at (shown_printable number)) (literal (codes ")") refl)

-- an account has no control character
pub account_is_printable : (status users host : List ℕ) → AllPass is_printable (account_text status users host)
unfolding account_text
account_is_printable status users host = pieces_printable (name_or_number users (user_number status)) (unwrap_or (slice_get (text_lines host) 0) []) (unwrap_or (user_number status) [])
