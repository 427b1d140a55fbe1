-- Either of two.
use Rattle.std.proofs.Common.{◌≡◌, Bool, true, false, refl}
use Rattle.html_rows.proofs.Prelude.{if◌then◌else◌}

-- the first is taken only if the test passes
pub choose_if : {X : Type 0} (P : X → Type 0) (b : Bool) (x y : X) → (b ≡ true → P x) → P y → P (if b then x else y)
choose_if P true x y h k = h refl
choose_if P false x y h k = k

pub choose : {X : Type 0} (P : X → Type 0) (b : Bool) (x y : X) → P x → P y → P (if b then x else y)
choose P b x y h k = choose_if P b x y (λ _. h) k
