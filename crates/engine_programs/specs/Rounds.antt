-- What is open after an event round a byte, and after an event's end.
use Rattle.std.proofs.Common.{Result, Ok, Err, OnOk, ◌≡◌, ◌∙◌, if◌then◌else◌, [], ◌∷◌, None, Option, ap}
use Rattle.engine_events.specs.Events.{event}
use Rattle.engine_events.specs.declared.event.Kind.TheVariants.{Exit as Exiting}
use Rattle.engine_events.specs.declared.event.Link.{Link}
use Rattle.engine_events.specs.declared.event.Name.{Name as EventName}
use Rattle.markdown_engine.specs.Machine.{past_byte, with_enter, with_exit}
use Rattle.markdown_engine.specs.Order.{IsInnermost, open_after, outer}
use Rattle.markdown_engine.specs.OrderLaws.{entered_opened, exited_opened, opened_append}
use Rattle.markdown_engine.specs.Reading.{Config}
use Rattle.markdown_engine.specs.VirtualText.{is_feed}

-- over the byte after an event's begin the event is the innermost
pub around_innermost : {M : Type 0} (name : EventName) (link : Option Link) (c d e : Config M) → d ≡ with_enter name link c → e ≡ past_byte d
    → IsInnermost name e.events
around_innermost name link c d e h k = (open_after [] c.events, ap (λ (z : Config _). open_after [] z.events) (k ∙ ap past_byte h) ∙ entered_opened name link c)

-- and after its end what was open before is open
pub around_opened : {M : Type 0} (name : EventName) (link : Option Link) (c d e f : Config M) → d ≡ with_enter name link c → e ≡ past_byte d
    → f ≡ with_exit name e → open_after [] f.events ≡ open_after [] c.events
unfolding around_innermost
around_opened name link c d e f h k l =
    ap (λ (z : Config _). open_after [] z.events) l ∙ exited_opened name e (open_after [] c.events) (around_innermost name link c d e h k).1

-- what begins is the innermost
pub entered_over : {M : Type 0} (name : EventName) (c f : Config M) → f ≡ with_enter name None c → open_after [] f.events ≡ name ∷ open_after [] c.events
entered_over name c f h = ap (λ (z : Config _). open_after [] z.events) h ∙ entered_opened name None c

pub on_ok : {A B : Type 0} (r : Result A B) (P Q : Type 0) → (P → Q) → OnOk r P → OnOk r Q
on_ok (Ok x) P Q f h = f h
on_ok (Err e) P Q f h = tt

pub exited_outer : {M : Type 0} (name : EventName) (c f : Config M) → f ≡ with_exit name c → open_after [] f.events ≡ outer (open_after [] c.events)
exited_outer name c f h = ap (λ (z : Config _). open_after [] z.events) h
    ∙ opened_append [] c.events (event Exiting name (if is_feed c.previous then c.line_start else c.point) None ∷ [])

pub exited_kept : {M : Type 0} (name : EventName) (c f : Config M) → f ≡ with_exit name c → f.tokenize_state ≡ c.tokenize_state
exited_kept name c f h = ap (λ (z : Config _). z.tokenize_state) h
