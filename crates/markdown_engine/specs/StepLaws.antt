-- What is said of a single call, whatever the machine.
use Rattle.std.proofs.Common.{◌≡◌, ℕ, ◌++◌, Bool, true, false, List, [], ◌∷◌, if◌then◌else◌, Option, None, Some, refl, sym, append-nil, append_assoc}
use Rattle.engine_events.specs.declared.event.Event.{Event}
use Rattle.engine_events.specs.declared.place.Point.{Point}
use Rattle.markdown_engine.specs.declared.attempt.Attempt.{Attempt}
use Rattle.markdown_engine.specs.declared.virtual_text.VirtualByte.{VirtualByte}
use Rattle.markdown_engine.specs.Laws.{IsAhead, IsFed, IsFront, IsStill}
use Rattle.markdown_engine.specs.OrderLaws.{handed_leads}
use Rattle.markdown_engine.specs.Reading.{Config, with_byte}

-- what holds of both branches of a test holds of the whole
pub by_test : {A : Type 0} (P : A → Type 0) (t : Bool) (x y : A) → P x → P y → P (if t then x else y)
by_test P true x y h k = h
by_test P false x y h k = k

-- Events

pub same_front : (a : List Event) → IsFront a a
same_front a = ([], sym (append-nil a))

pub two_more : (a b c : List Event) → IsFront a ((a ++ b) ++ c)
two_more a b c = (b ++ c, append_assoc a b c)

-- Attempts

-- where an attempt waits, some wait
pub some_wait : (stack : List Attempt) (a : Attempt) → stack ++ a ∷ [] ≡ [] → ⊥
some_wait [] a h = cc
some_wait (x ∷ stack) a h = cc

-- Bytes

pub same_place : {M : Type 0} (c : Config M) → IsStill c c
same_place c = record { point = refl; next = refl; line_start = refl; previous = refl; current = refl }

-- a byte that is handed in leads on, and leaves less
pub handed_ahead : {M : Type 0} (size : ℕ) (c : Config M) (p : Point) (v : Option VirtualByte) → IsFed size c.point p v → IsAhead size (with_byte c p v)
handed_ahead size c p None fed = record { less = λ b e. absurd (let f : None ≡ Some b = e in cc); leads = handed_leads size c p None fed }
handed_ahead size c p (Some w) fed = record { less = λ b e. (fed.read w refl).falls; leads = handed_leads size c p (Some w) fed }
