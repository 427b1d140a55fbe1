-- The machine of letters is lawful.
use Rattle.std.proofs.Common.{◌∙◌, ℕ, None, Option, Some, [], refl}
use Rattle.engine_events.specs.declared.event.Name.TheVariants.{Data}
use Rattle.engine_events.specs.declared.place.Point.{Point}
use Rattle.engine_states.specs.declared.state.Name.{Name}
use Rattle.markdown_engine.specs.Laws.{LawfulAt}
use Rattle.markdown_engine.specs.Machine.{past_byte, with_enter}
use Rattle.markdown_engine.specs.Order.{Reaches, open_after}
use Rattle.markdown_engine.specs.OrderLaws.{entered_opened, entered_tidy, exited_after, exited_opened, handed_tidy, moved_tidy}
use Rattle.markdown_engine.specs.Reading.{Config, at_point}
use Rattle.markdown_engine.specs.Resolving.{Leaves, LeavesAt, ResolvesAt, HoldsUnresolved, resolves_nothing, settles_whole}
use Rattle.markdown_engine.specs.ResolvingLaws.{lawful_unresolved, resolves_unresolved}
use Rattle.markdown_engine.specs.StepLaws.{same_front, two_more}
use Rattle.tests_engine.specs.declared.letters.Letters.{Letters}
use Rattle.tests_engine.specs.EachByte.{GoesOver, at_byte, each_rank}
use Rattle.tests_engine.specs.EachByteLaws.{each_lawful}
use Rattle.tests_engine.specs.Letters.{IsBetween, letter_step, reads_letters, round_byte}

module _ {M : Type 0} where
  pub between_letters : (c : Config M) → Reaches c.point c.next → IsBetween c → IsBetween (round_byte c)
  between_letters c order h =
      let d = with_enter Data None c in
      let inside = entered_opened Data None c in
      record {
        tidy = exited_after Data d order (open_after [] c.events, inside) (entered_tidy Data None c h.tidy);
        closed = exited_opened Data (past_byte d) (open_after [] c.events) inside ∙ h.closed;
      }

  pub between_moved : (c : Config M) (p : Point) → Reaches c.point p → IsBetween c → IsBetween (at_point p c)
  between_moved c p order h = record { tidy = moved_tidy c p order h.tidy; closed = h.closed }

goes_over : GoesOver IsBetween IsBetween (λ c. c) (round_byte {M = Letters})
goes_over = record {
  stops = λ c. same_front c.events;
  adds = λ c. two_more c.events _ _;
  stays = λ c. record { point = refl; next = refl; line_start = refl; previous = refl; current = refl };
  consumes = λ c. record { point = refl; next = refl; line_start = refl; previous = refl; current = refl };
  ends = λ c h. h;
  keeps = between_letters;
  fed = λ size c p v fed h. record { tidy = handed_tidy size c p v fed h.tidy; closed = h.closed };
  on = between_moved;
  after_on = between_moved;
  tidy = λ c h. h.tidy;
  after_tidy = λ c h. h.tidy;
  closed = λ c h. h.closed;
}

leaves_at : (b : Option ℕ) (c : Config Letters) (n : Name) → LeavesAt c (at_byte (λ d. d) round_byte b c n)
leaves_at None c n = (refl, refl)
leaves_at (Some b) c n = (refl, refl)

letter_leaves : Leaves letter_step
unfolding letter_step
letter_leaves c n = leaves_at c.current c n

held : (size : ℕ) → LawfulAt size reads_letters letter_step (each_rank size)
unfolding letter_step
held size = each_lawful size IsBetween IsBetween (λ c. c) round_byte goes_over

pub letter_lawful : (size : ℕ) → LawfulAt size (HoldsUnresolved reads_letters) letter_step (each_rank size)
letter_lawful size = lawful_unresolved size reads_letters letter_step (each_rank size) letter_leaves (held size)

pub letter_resolves : (size : ℕ) → ResolvesAt (HoldsUnresolved reads_letters) resolves_nothing settles_whole
letter_resolves size = resolves_unresolved size reads_letters letter_step (each_rank size) (held size) (λ c h. h)
