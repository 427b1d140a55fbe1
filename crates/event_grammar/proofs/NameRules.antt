-- What names have in common.
use Rattle.std.proofs.Common.{◌≡◌, Bool, true, false, ◌||◌, ◌∷◌, [], refl, subst}
use denote.Enum.Bare.{same_true}
use Rattle.event_grammar.proofs.Prelude.{asks_others, ending_names, is_listed, is_not, is_void, Name, same_name, space_names, the_type, void_by, void_of}

-- ---- names of two in a list

either : (a b : Bool) (A : Type 0) → (a || (b || false)) ≡ true → (a ≡ true → A) → (b ≡ true → A) → A
either true b A h f g = f refl
either false true A h f g = g refl
either false false A h f g = absurd (let k : false ≡ true = h in cc)

-- what is so of two names is so of each name in their list
pub of_two : (P : Name → Type 0) (a b name : Name) → P a → P b → is_listed (a ∷ b ∷ []) name ≡ true → P name
of_two P a b name p q h =
    either (same_name a name) (same_name b name) (P name) h
    (λ k. subst P (same_true the_type tt a name k) p) (λ k. subst P (same_true the_type tt b name k) q)

-- ---- events that hold no other

void_then : (v e o s : Bool) → is_not (void_by v e o s) ≡ false → v ≡ true
void_then true e o s h = refl
void_then false e o s h = absurd (let f : true ≡ false = h in cc)

pub void_is : (name : Name) → is_not (void_of name) ≡ false → is_void name ≡ true
void_is name h = void_then (is_void name) (is_listed ending_names name) (asks_others name) (is_listed space_names name) h
