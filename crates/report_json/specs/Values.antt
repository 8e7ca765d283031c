-- The JSON values that are written, as the grammar of JSON has them, and what it means to write one.
use Rattle.std.specs.Prelude.{◌≡◌, ℕ, List, [], ◌∷◌, ◌++◌, Option, Some, None}
use Rattle.std.specs.Fmt.{decimal}
use Rattle.std.specs.List.{flat_map}
use Rattle.json.specs.Json.{Json, null, number, array, object, Members, no_members, member}
use Rattle.json.specs.Token.{Token}
use Rattle.json.specs.Tree.{json_tokens}
use Rattle.json.specs.Value.{items_of}

-- a field of an object: its key and its value
pub record Field : Type 0 where
  pub key : List ℕ
  pub value : Json

abbrev pub field : (key : List ℕ) → (value : Json) → Field
field key value = record { key = key; value = value }

abbrev pub members : List Field → Members
members [] = no_members
members (f ∷ fs) = member f.key f.value (members fs)

-- the object that has these fields, in this order
abbrev pub object_of : List Field → Json
object_of fs = object (members fs)

-- the array of these values
abbrev pub array_of : List Json → Json
array_of values = array (items_of values)

-- a number, in decimal
abbrev pub amount : ℕ → Json
amount n = number (decimal n)

-- the value of what there is, and `null` where there is nothing
abbrev pub or_null : {A : Type 0} → (A → Json) → Option A → Json
or_null of (Some x) = of x
or_null of None = null

-- after what was written, these tokens were
abbrev pub Adds : (old new : List Token) → List Token → Type 0
Adds old new tokens = new ≡ old ++ tokens

-- after what was written, this value was
abbrev pub AddsValue : (old new : List Token) → Json → Type 0
AddsValue old new value = Adds old new (json_tokens value)

-- a field as it is written: its key, and the tokens of its value
unfoldable pub field_tokens : Field → List Token
field_tokens f = Token.key f.key ∷ json_tokens f.value

-- after what was written, these fields were
abbrev pub AddsFields : (old new : List Token) → List Field → Type 0
AddsFields old new fs = Adds old new (flat_map field_tokens fs)
