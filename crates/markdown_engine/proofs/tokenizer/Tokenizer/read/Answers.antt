use Rattle.engine_states.specs.declared.state.State.TheVariants as states
use Rattle.std.proofs.Common.{◌∙◌, ℕ, ◌-◌, inl, inr, length, take, true, false, refl, sym, ap, not}
use Rattle.markdown_engine.proofs.Prelude.{read_with, source, view_config}
use Rattle.markdown_engine.proofs.tokenizer.Tokenizer.read.Goals as goal
use Rattle.markdown_engine.proofs.Push.{handing, same_read, shown_resumed, answers_at, valid_at, turn_pop, turn_retry}
use Rattle.markdown_engine.proofs.Push.{turn_next, smaller_next, smaller_pop, smaller_retry, valid_fed}
use Rattle.markdown_engine.proofs.Push.{same_cut, same_text, same_stack, at_end, only_memory}
use Rattle.markdown_engine.proofs.Push.{next_stops, stopped, stopped_alone}
use Rattle.markdown_engine.proofs.Halts.{none_later}
use Rattle.markdown_engine.specs.Machine.{halt_of}

pub byte_before-byte-requires : goal.byte_before-byte-requires
byte_before-byte-requires g c = record { to = same_cut c.args.self.now c.turns.self c.args.to c.turns.invariant.same.parse_state c.requires.to }

pub turns-init : goal.turns-init
turns-init g c = record {
  same = record { parse_state = refl; skips = refl };
  holds = c.requires.valid;
  reads = inr (λ more limit on. record { back = λ d w o. o });
  turned = inr (none_later (g.M.Machine.step (read_with c.args.self.now)) (source c.args.self.now) c.args.to c.args.end
      (halt_of g.M.Machine.seen c.args.self.now c.args.state));
}

pub turns-smaller-in-Some : goal.turns-smaller-in-Some
turns-smaller-in-Some g c =
    let x = read_with c.args.self.now in
    smaller_pop g.M.Machine.seen (length x.bytes) (g.M.Machine.valid x) (g.M.Machine.step x) (g.M.Machine.rank x) (g.met.M.Machine.lawful x)
    true c.in-Some.attempt c.args.to c.args.end c.args.self.now c.turns.self c.resume.new.self c.args.state c.turns.next c.in-Some.attempt.ok
    c.in-Ok.is refl (rw c.resume.ensures.attempts c.in-Some.ensures.items)
    (shown_resumed g.M.Machine.seen c.in-Some.attempt c.turns.self c.resume.new.self true c.resume.ensures.config) c.turns.invariant

pub turns-smaller-in-Some-pop : goal.turns-smaller-in-Some-pop
turns-smaller-in-Some-pop g c =
    let x = read_with c.args.self.now in
    smaller_pop g.M.Machine.seen (length x.bytes) (g.M.Machine.valid x) (g.M.Machine.step x) (g.M.Machine.rank x) (g.met.M.Machine.lawful x)
    false c.in-Some-pop.attempt c.args.to c.args.end c.args.self.now c.turns.self c.resume-in-Some-pop.new.self c.args.state c.turns.next
    c.in-Some-pop.attempt.nok
    c.in-Nok.is refl (rw c.resume-in-Some-pop.ensures.attempts c.in-Some-pop.ensures.items)
    (shown_resumed g.M.Machine.seen c.in-Some-pop.attempt c.turns.self c.resume-in-Some-pop.new.self false c.resume-in-Some-pop.ensures.config)
    c.turns.invariant

pub turns-smaller : goal.turns-smaller
turns-smaller g c =
    let x = read_with c.args.self.now in
    smaller_retry g.M.Machine.seen (length x.bytes) (g.M.Machine.valid x) (g.M.Machine.step x) (g.M.Machine.rank x) (g.met.M.Machine.lawful x)
    c.in-Retry.name c.args.to c.args.end c.args.self.now c.turns.self c.call-next-in-Retry.new.tokenizer c.args.state c.turns.next c.call-next-in-Retry.result
    c.in-Retry.is (answers_at g.M.Machine.seen g.M.Machine.step (read_with c.turns.self)
    (read_with c.args.self.now) c.in-Retry.name c.turns.self c.call-next-in-Retry.new.tokenizer c.call-next-in-Retry.result
    (same_read c.args.self.now c.turns.self c.turns.invariant.same.parse_state) c.call-next-in-Retry.ensures) c.turns.invariant

pub turns-preserved-in-Some : goal.turns-preserved-in-Some
turns-preserved-in-Some g c =
    let x = read_with c.args.self.now in
    turn_pop g.M.Machine.seen (length x.bytes) (g.M.Machine.valid x) (g.M.Machine.step x) (g.M.Machine.rank x) (g.met.M.Machine.lawful x)
    true c.in-Some.attempt c.args.to c.args.end c.args.self.now c.turns.self c.resume.new.self c.args.state c.turns.next c.in-Some.attempt.ok
    c.in-Ok.is refl (rw c.resume.ensures.attempts c.in-Some.ensures.items)
    (shown_resumed g.M.Machine.seen c.in-Some.attempt c.turns.self c.resume.new.self true c.resume.ensures.config)
    (record { parse_state = rw c.resume.ensures.text.parse_state refl; skips = rw c.resume.ensures.text.skips refl }) c.turns.invariant

pub turns-preserved-in-Some-pop : goal.turns-preserved-in-Some-pop
turns-preserved-in-Some-pop g c =
    let x = read_with c.args.self.now in
    turn_pop g.M.Machine.seen (length x.bytes) (g.M.Machine.valid x) (g.M.Machine.step x) (g.M.Machine.rank x) (g.met.M.Machine.lawful x)
    false c.in-Some-pop.attempt c.args.to c.args.end c.args.self.now c.turns.self c.resume-in-Some-pop.new.self c.args.state c.turns.next
    c.in-Some-pop.attempt.nok
    c.in-Nok.is refl (rw c.resume-in-Some-pop.ensures.attempts c.in-Some-pop.ensures.items)
    (shown_resumed g.M.Machine.seen c.in-Some-pop.attempt c.turns.self c.resume-in-Some-pop.new.self false c.resume-in-Some-pop.ensures.config)
    (record {
      parse_state = rw c.resume-in-Some-pop.ensures.text.parse_state refl;
      skips = rw c.resume-in-Some-pop.ensures.text.skips refl;
    }) c.turns.invariant

pub turns-preserved : goal.turns-preserved
turns-preserved g c =
    let x = read_with c.args.self.now in
    turn_retry g.M.Machine.seen (length x.bytes) (g.M.Machine.valid x) (g.M.Machine.step x) (g.M.Machine.rank x) (g.met.M.Machine.lawful x)
    c.in-Retry.name c.args.to c.args.end c.args.self.now c.turns.self c.call-next-in-Retry.new.tokenizer c.args.state c.turns.next c.call-next-in-Retry.result
    c.in-Retry.is (answers_at g.M.Machine.seen g.M.Machine.step (read_with c.turns.self)
    (read_with c.args.self.now) c.in-Retry.name c.turns.self c.call-next-in-Retry.new.tokenizer c.call-next-in-Retry.result
    (same_read c.args.self.now c.turns.self c.turns.invariant.same.parse_state) c.call-next-in-Retry.ensures) c.turns.invariant

pub call-next-requires : goal.call-next-requires
call-next-requires g c =
    let x = read_with c.args.self.now in
    let p = c.place-place.result in
    let b = c.byte_before-byte.result in
    let done = c.hand.ensures in
    let given = handing g.M.Machine.seen c.args.to c.args.self.now c.turns.self c.hand.new.self p b c.requires.to.within c.requires.to.column
    c.turns.invariant.same c.place-place.ensures c.byte_before-byte.ensures done.config done.attempts done.text.parse_state done.text.skips in
    let at = same_read c.turns.self c.hand.new.self given.same.parse_state ∙ same_read c.args.self.now c.turns.self c.turns.invariant.same.parse_state in
    valid_at g.M.Machine.valid x (read_with c.hand.new.self) (view_config g.M.Machine.seen c.hand.new.self) c.hand.new.self.attempts.items
    (states.Retry c.in-Next.name) (sym at) (valid_fed g.M.Machine.seen (length x.bytes) (g.M.Machine.valid x) (g.M.Machine.step x) (g.M.Machine.rank x)
    (g.met.M.Machine.lawful x)
    c.in-Next.name p b c.args.to c.args.end c.args.self.now c.turns.self c.hand.new.self c.args.state c.turns.next given c.in-Next.is c.turns.invariant)

pub turns-smaller-in-Next : goal.turns-smaller-in-Next
turns-smaller-in-Next g c =
    let x = read_with c.args.self.now in
    let p = c.place-place.result in
    let b = c.byte_before-byte.result in
    let done = c.hand.ensures in
    let given = handing g.M.Machine.seen c.args.to c.args.self.now c.turns.self c.hand.new.self p b c.requires.to.within c.requires.to.column
    c.turns.invariant.same c.place-place.ensures c.byte_before-byte.ensures done.config done.attempts done.text.parse_state done.text.skips in
    let at = same_read c.turns.self c.hand.new.self given.same.parse_state ∙ same_read c.args.self.now c.turns.self c.turns.invariant.same.parse_state in
    let answers = answers_at g.M.Machine.seen g.M.Machine.step (read_with c.hand.new.self)
    (read_with c.args.self.now) c.in-Next.name c.hand.new.self c.call-next.new.tokenizer c.call-next.result at c.call-next.ensures in
    smaller_next g.M.Machine.seen (length x.bytes) (g.M.Machine.valid x) (g.M.Machine.step x) (g.M.Machine.rank x) (g.met.M.Machine.lawful x)
    c.in-Next.name p b c.args.to c.args.end c.args.self.now c.turns.self c.hand.new.self c.call-next.new.tokenizer c.args.state c.turns.next c.call-next.result
    given c.in-Next.is answers c.turns.invariant

pub turns-preserved-in-Next : goal.turns-preserved-in-Next
turns-preserved-in-Next g c =
    let x = read_with c.args.self.now in
    let p = c.place-place.result in
    let b = c.byte_before-byte.result in
    let done = c.hand.ensures in
    let given = handing g.M.Machine.seen c.args.to c.args.self.now c.turns.self c.hand.new.self p b c.requires.to.within c.requires.to.column
    c.turns.invariant.same c.place-place.ensures c.byte_before-byte.ensures done.config done.attempts done.text.parse_state done.text.skips in
    let at = same_read c.turns.self c.hand.new.self given.same.parse_state ∙ same_read c.args.self.now c.turns.self c.turns.invariant.same.parse_state in
    let answers = answers_at g.M.Machine.seen g.M.Machine.step (read_with c.hand.new.self)
    (read_with c.args.self.now) c.in-Next.name c.hand.new.self c.call-next.new.tokenizer c.call-next.result at c.call-next.ensures in
    let stop = at_end c.byte_before-byte.result c.is_none.result c.args.end c.is_none.ensures c.else-is_none.either in
    turn_next g.M.Machine.seen (length x.bytes) (g.M.Machine.valid x) (g.M.Machine.step x) (g.M.Machine.rank x) (g.met.M.Machine.lawful x)
    c.in-Next.name p b c.args.to c.args.end c.args.self.now c.turns.self c.hand.new.self c.call-next.new.tokenizer c.args.state c.turns.next c.call-next.result
    given c.in-Next.is
    (λ more limit on. same_text (source c.args.self.now) c.args.to more limit c.turns.self.point p c.args.end b given.place given.byte on stop) stop answers
    c.turns.invariant

pub returns-in-None-clause-reads : goal.returns-in-None-clause-reads
returns-in-None-clause-reads g c =
    same_stack g.M.Machine.seen (g.M.Machine.valid (read_with c.args.self.now))
    (g.M.Machine.step (read_with c.args.self.now)) c.args.to c.args.end c.args.self.now c.turns.self _ c.args.state c.turns.next refl c.in-None.ensures.items
    (record { parse_state = refl; skips = refl }) c.turns.invariant

pub returns-in-None-pop-clause-reads : goal.returns-in-None-pop-clause-reads
returns-in-None-pop-clause-reads g c =
    same_stack g.M.Machine.seen (g.M.Machine.valid (read_with c.args.self.now))
    (g.M.Machine.step (read_with c.args.self.now)) c.args.to c.args.end c.args.self.now c.turns.self _ c.args.state c.turns.next refl
    c.in-None-pop.ensures.items (record { parse_state = refl; skips = refl }) c.turns.invariant

pub returns-in-Error-clause-ends : goal.returns-in-Error-clause-ends
returns-in-Error-clause-ends g c end =
    inl (only_memory (length c.args.self.now.parse_state.now.bytes.now) (g.M.Machine.valid (read_with c.args.self.now))
    (g.M.Machine.step (read_with c.args.self.now)) (g.met.M.Machine.lawful (read_with c.args.self.now)).keeps
    (view_config g.M.Machine.seen c.turns.self) c.turns.self.attempts.items c.turns.next _ c.in-Error.is c.turns.invariant.holds)

pub returns-in-None-clause-halts : goal.returns-in-None-clause-halts
returns-in-None-clause-halts g c =
    let old = c.args.self.now in
    stopped_alone g.M.Machine.seen g.M.Machine.valid g.M.Machine.step g.M.Machine.rank c.args.to c.args.end true old c.turns.self _ c.args.state c.turns.next
    (g.met.M.Machine.lawful (read_with old)) c.requires.to c.requires.valid c.turns.invariant refl (record { parse_state = refl; skips = refl }) c.in-Ok.is
    c.in-None.ensures.items (c.in-None.ensures.rest ∙ ap (λ (n : ℕ). take (n - 1) c.turns.self.attempts.items) c.in-None.ensures.cases.0)

pub returns-then-not-end-clause-halts : goal.returns-then-not-end-clause-halts
returns-then-not-end-clause-halts g c =
    let old = c.args.self.now in
    let t = c.turns.self in
    stopped g.M.Machine.seen g.M.Machine.valid g.M.Machine.step g.M.Machine.rank c.args.to c.args.end old t t c.args.state c.turns.next
    (g.met.M.Machine.lawful (read_with old)) c.requires.to c.requires.valid c.turns.invariant refl refl (record { parse_state = refl; skips = refl })
    (next_stops g.M.Machine.seen (g.M.Machine.step (read_with old)) c.args.to c.args.end old t c.in-Next.name c.place-place.result c.byte_before-byte.result
    c.turns.next c.turns.invariant.same c.place-place.ensures c.byte_before-byte.ensures (c.is_none.ensures ∙ ap not c.if-is_none.true) c.if-not-end.true
    c.in-Next.is)
