-- The tokens of objects and arrays.
use Rattle.std.proofs.Common.{◌≡◌, ◌∙◌, ℕ, List, [], ◌∷◌, ◌++◌, map, refl, sym, ap, append_assoc, append-nil}
use Rattle.std.specs.List.{flat_map}
use Rattle.json.specs.Json.{Json}
use Rattle.json.specs.Token.{Token}
use Rattle.json.specs.Tree.{items_tokens, json_tokens, members_tokens}
use Rattle.json.specs.Value.{items_of}
use Rattle.report_json.specs.Values.{Field, array_of, field, field_tokens, members, object_of}

-- some values, one after another, and the bracket after them
items_are : {A : Type 0} (f : A → Json) (xs : List A) → flat_map (λ x. json_tokens (f x)) xs ++ Token.end_array ∷ [] ≡ items_tokens (items_of (map f xs))
items_are f [] = refl
items_are f (x ∷ xs) =
    append_assoc (json_tokens (f x)) (flat_map (λ x. json_tokens (f x)) xs) (Token.end_array ∷ [])
    ∙ ap (λ t. json_tokens (f x) ++ t) (items_are f xs)

-- a bracket, some values and the other bracket are an array
pub array_is : {A : Type 0} (f : A → Json) (xs : List A) (before : List Token) → ((before ++ Token.begin_array ∷ []) ++ flat_map (λ x. json_tokens (f x)) xs) ++ Token.end_array ∷ [] ≡ before ++ json_tokens (array_of (map f xs))
array_is f xs before =
    append_assoc (before ++ Token.begin_array ∷ []) (flat_map (λ x. json_tokens (f x)) xs) (Token.end_array ∷ [])
    ∙ append_assoc before (Token.begin_array ∷ []) (flat_map (λ x. json_tokens (f x)) xs ++ Token.end_array ∷ [])
    ∙ ap (λ t. before ++ Token.begin_array ∷ t) (items_are f xs)

-- some fields, one after another, and the brace after them
members_are : (fs : List Field) → flat_map field_tokens fs ++ Token.end_object ∷ [] ≡ members_tokens (members fs)
unfolding field_tokens
members_are [] = refl
members_are (f ∷ fs) =
    append_assoc (field_tokens f) (flat_map field_tokens fs) (Token.end_object ∷ [])
    ∙ ap (λ t. field_tokens f ++ t) (members_are fs)

-- a brace, some fields and the other brace are an object
pub object_is : (fs : List Field) (before : List Token) → ((before ++ Token.begin_object ∷ []) ++ flat_map field_tokens fs) ++ Token.end_object ∷ [] ≡ before ++ json_tokens (object_of fs)
object_is fs before =
    append_assoc (before ++ Token.begin_object ∷ []) (flat_map field_tokens fs) (Token.end_object ∷ [])
    ∙ append_assoc before (Token.begin_object ∷ []) (flat_map field_tokens fs ++ Token.end_object ∷ [])
    ∙ ap (λ t. before ++ Token.begin_object ∷ t) (members_are fs)

-- some fields, and then others
fields_append : (fs gs : List Field) → flat_map field_tokens (fs ++ gs) ≡ flat_map field_tokens fs ++ flat_map field_tokens gs
fields_append [] gs = refl
fields_append (f ∷ fs) gs =
    ap (λ t. field_tokens f ++ t) (fields_append fs gs) ∙ sym (append_assoc (field_tokens f) (flat_map field_tokens fs) (flat_map field_tokens gs))

pub more_fields : (fs gs : List Field) (before : List Token) → (before ++ flat_map field_tokens fs) ++ flat_map field_tokens gs ≡ before ++ flat_map field_tokens (fs ++ gs)
more_fields fs gs before = append_assoc before (flat_map field_tokens fs) (flat_map field_tokens gs) ∙ ap (λ t. before ++ t) (sym (fields_append fs gs))

-- some values, one after another, and the bracket after them
values_are : (js : List Json) → flat_map json_tokens js ++ Token.end_array ∷ [] ≡ items_tokens (items_of js)
values_are [] = refl
values_are (j ∷ js) =
    append_assoc (json_tokens j) (flat_map json_tokens js) (Token.end_array ∷ [])
    ∙ ap (λ t. json_tokens j ++ t) (values_are js)

-- a key, a bracket, some values and the other bracket are a field whose value is an array
pub list_field_is : (name : List ℕ) (js : List Json) (before : List Token) → (((before ++ Token.key name ∷ []) ++ Token.begin_array ∷ []) ++ flat_map json_tokens js) ++ Token.end_array ∷ [] ≡ before ++ flat_map field_tokens (field name (array_of js) ∷ [])
unfolding field_tokens
list_field_is name js before =
    append_assoc ((before ++ Token.key name ∷ []) ++ Token.begin_array ∷ []) (flat_map json_tokens js) (Token.end_array ∷ [])
    ∙ append_assoc (before ++ Token.key name ∷ []) (Token.begin_array ∷ []) (flat_map json_tokens js ++ Token.end_array ∷ [])
    ∙ append_assoc before (Token.key name ∷ []) (Token.begin_array ∷ (flat_map json_tokens js ++ Token.end_array ∷ []))
    ∙ ap (λ t. before ++ Token.key name ∷ (Token.begin_array ∷ t)) (values_are js)
    ∙ ap (λ t. before ++ t) (sym (append-nil (Token.key name ∷ json_tokens (array_of js))))

-- some values, and then others
pub values_append : (js ks : List Json) → flat_map json_tokens (js ++ ks) ≡ flat_map json_tokens js ++ flat_map json_tokens ks
values_append [] ks = refl
values_append (j ∷ js) ks =
    ap (λ t. json_tokens j ++ t) (values_append js ks) ∙ sym (append_assoc (json_tokens j) (flat_map json_tokens js) (flat_map json_tokens ks))

-- four fields, one after another
pub four_fields : (f g h k : Field) (before : List Token) → (((before ++ flat_map field_tokens (f ∷ [])) ++ flat_map field_tokens (g ∷ [])) ++ flat_map field_tokens (h ∷ [])) ++ flat_map field_tokens (k ∷ []) ≡ before ++ flat_map field_tokens (f ∷ g ∷ h ∷ k ∷ [])
four_fields f g h k before =
    ap (λ t. (t ++ flat_map field_tokens (h ∷ [])) ++ flat_map field_tokens (k ∷ [])) (more_fields (f ∷ []) (g ∷ []) before)
    ∙ ap (λ t. t ++ flat_map field_tokens (k ∷ [])) (more_fields (f ∷ g ∷ []) (h ∷ []) before)
    ∙ more_fields (f ∷ g ∷ h ∷ []) (k ∷ []) before
