-- The counting machine is lawful.
use Rattle.std.proofs.Common.{◌≡◌, ℕ, List, [], Option, Some, None, refl, sym, ap, subst}
use Rattle.engine_events.specs.declared.event.Event.{Event}
use Rattle.engine_states.specs.declared.state.Name.{Name}
use Rattle.markdown_engine.specs.Laws.{LawfulAt}
use Rattle.markdown_engine.specs.Order.{AreTidy, IsTidy, open_after}
use Rattle.markdown_engine.specs.OrderLaws.{from_start}
use Rattle.markdown_engine.specs.Reading.{Config}
use Rattle.markdown_engine.specs.Resolving.{Leaves, LeavesAt, ResolvesAt, HoldsUnresolved, resolves_nothing, settles_whole}
use Rattle.markdown_engine.specs.ResolvingLaws.{lawful_unresolved, resolves_unresolved}
use Rattle.markdown_engine.specs.StepLaws.{same_front}
use Rattle.tests_engine.specs.Counting.{AddsNone, count_step, counts, over_byte}
use Rattle.tests_engine.specs.EachByte.{GoesOver, at_byte, each_rank}
use Rattle.tests_engine.specs.EachByteLaws.{each_lawful}

none_tidy : (c : Config ℕ) → c.events ≡ [] → IsTidy c
none_tidy c h = subst (λ (z : List Event). AreTidy z c.point) (sym h) (record { nested = tt; order = from_start c.point })

goes_over : GoesOver AddsNone AddsNone (λ c. c) over_byte
goes_over = record {
  stops = λ c. same_front c.events;
  adds = λ c. same_front c.events;
  stays = λ c. record { point = refl; next = refl; line_start = refl; previous = refl; current = refl };
  consumes = λ c. record { point = refl; next = refl; line_start = refl; previous = refl; current = refl };
  ends = λ c h. h;
  keeps = λ c order h. h;
  fed = λ size c p v fed h. h;
  on = λ c p order h. h;
  after_on = λ c p order h. h;
  tidy = none_tidy;
  after_tidy = none_tidy;
  closed = λ c h. ap (open_after []) h;
}

leaves_at : (b : Option ℕ) (c : Config ℕ) (n : Name) → LeavesAt c (at_byte (λ d. d) over_byte b c n)
leaves_at None c n = (refl, refl)
leaves_at (Some b) c n = (refl, refl)

count_leaves : Leaves count_step
unfolding count_step
count_leaves c n = leaves_at c.current c n

held : (size : ℕ) → LawfulAt size counts count_step (each_rank size)
unfolding count_step
held size = each_lawful size AddsNone AddsNone (λ c. c) over_byte goes_over

pub count_lawful : (size : ℕ) → LawfulAt size (HoldsUnresolved counts) count_step (each_rank size)
count_lawful size = lawful_unresolved size counts count_step (each_rank size) count_leaves (held size)

pub count_resolves : (size : ℕ) → ResolvesAt (HoldsUnresolved counts) resolves_nothing settles_whole
count_resolves size = resolves_unresolved size counts count_step (each_rank size) (held size) (λ c h. h)
