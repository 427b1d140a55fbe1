-- What is open but for some, one more of them or one less.
use Rattle.std.proofs.Common.{◌≡◌, List, [], ◌∷◌, ◌++◌, refl, ap}
use Rattle.parse_inline.proofs.Prelude.{leave_all, leave_open, Mark, Open}

pub leave_last : (os : List Open) (o : Open) (marks : List Mark) → leave_all (os ++ o ∷ []) marks ≡ leave_all os (leave_open o marks)
leave_last [] o marks = refl
leave_last (first ∷ os) o marks = ap (leave_open first) (leave_last os o marks)
