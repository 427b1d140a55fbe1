use Rattle.std.proofs.Common.{◌≡◌, inl, inr, refl, length, ap, ◌∙◌, subst, sym, ℕ, ◌⊎◌, ◌<◌, false, arith}
use Rattle.markdown_engine.proofs.Prelude.{GoesOn, HasFlushed, IsRefused, read_with, seen_as, Source, source, text_to, view_config, with_skip}
use Rattle.markdown_engine.proofs.Push.{around, same_read, flushed_at, joined, skipped_as, whole_of, skip_goes_on, within, not_refused, only_memory}
use Rattle.markdown_engine.proofs.Push.{on_error, unless_error, valid_alone, valid_later}
use Rattle.markdown_engine.proofs.tokenizer.Tokenizer.read_in_lines.Goals as goal

pub read-first-requires : goal.read-first-requires
read-first-requires g c = record {
  to = record { within = omega arith; column = λ e. refl };
  valid = inr (valid_alone g.M.Machine.seen (g.M.Machine.valid (read_with c.args.self.now)) c.args.self.now c.args.state c.requires.fresh c.requires.valid);
}

pub finish-requires : goal.finish-requires
finish-requires g c =
    let old = c.args.self.now in
    let mid = c.read-first.new.self in
    let later = c.define_skip.new.self in
    let at = same_read mid later (rw c.define_skip.ensures.parse_state refl) ∙ same_read old mid c.read-first.ensures.reads.0.parse_state in
    record {
      to = record { within = omega arith; column = λ e. refl };
      valid = valid_later g.M.Machine.valid (read_with old) (read_with later) (view_config g.M.Machine.seen mid) (view_config g.M.Machine.seen later)
          mid.attempts.items later.attempts.items c.read-first.result at (ap (seen_as g.M.Machine.seen) c.define_skip.ensures.config)
          (rw c.define_skip.ensures.attempts refl) c.read-first.ensures.valid;
    }

pub returns-then-is_err : goal.returns-then-is_err
returns-then-is_err g c = record {
  reads = inl c.out_of_memory-then-is_err.ensures;
  whole = inl c.out_of_memory-then-is_err.ensures;
  stays = λ h. on_error c.define_skip.result (sym c.is_err.ensures.value ∙ c.if-is_err.true) c.define_skip.ensures.refused;
  failed = λ r. on_error c.define_skip.result (sym c.is_err.ensures.value ∙ c.if-is_err.true) c.define_skip.ensures.refused;
  refused = λ h. c.out_of_memory-then-is_err.ensures;
}

pub returns-in-Error-clause-whole : goal.returns-in-Error-clause-whole
returns-in-Error-clause-whole g c =
    inl (only_memory (length c.args.self.now.parse_state.now.bytes.now) (g.M.Machine.valid (read_with c.args.self.now))
    (g.M.Machine.step (read_with c.args.self.now)) (g.met.M.Machine.lawful (read_with c.args.self.now)).keeps
    (view_config g.M.Machine.seen c.read-first.new.self) c.read-first.new.self.attempts.items c.read-first.result _ c.in-Error.is c.read-first.ensures.valid)

pub returns-clause-whole : goal.returns-clause-whole
returns-clause-whole g c = c.finish.ensures.whole

pub returns-in-Error-clause-reads : goal.returns-in-Error-clause-reads
returns-in-Error-clause-reads g c =
    inl (only_memory (length c.args.self.now.parse_state.now.bytes.now) (g.M.Machine.valid (read_with c.args.self.now))
    (g.M.Machine.step (read_with c.args.self.now)) (g.met.M.Machine.lawful (read_with c.args.self.now)).keeps
    (view_config g.M.Machine.seen c.read-first.new.self) c.read-first.new.self.attempts.items c.read-first.result _ c.in-Error.is c.read-first.ensures.valid)

pub returns-clause-reads : goal.returns-clause-reads
returns-clause-reads g c =
    let old = c.args.self.now in
    let mid = c.read-first.new.self in
    let later = c.define_skip.new.self in
    let same = around old mid c.read-first.ensures.reads.0 in
    let skipped : source later ≡ with_skip (source mid) c.args.point =
    skipped_as mid later c.args.point (rw c.define_skip.ensures.parse_state refl)
    (unless_error c.define_skip.result (sym c.is_err.ensures.value ∙ c.if-is_err.false) c.define_skip.ensures.skips) in
    let there : source later ≡ with_skip (source old) c.args.point = skipped ∙ ap (λ (z : Source). with_skip z c.args.point) same in
    let size : length later.parse_state.now.bytes.now ≡ length old.parse_state.now.bytes.now = ap (λ (z : Source). length z.bytes) there in
    let low : c.args.cut < length later.parse_state.now.bytes.now = subst (λ (n : ℕ). c.args.cut < n) (sym size) c.requires.cut in
    let on = skip_goes_on (source old) c.args.cut c.args.point (
      length later.parse_state.now.bytes.now,
      0,
    ) c.requires.line (within (c.args.cut, 0) (length later.parse_state.now.bytes.now) low) in
    let at = same_read mid later (rw c.define_skip.ensures.parse_state refl) ∙ same_read old mid c.read-first.ensures.reads.0.parse_state in
    let outcome = flushed_at g.M.Machine.seen g.M.Machine.step (read_with later) (read_with old)
    (text_to (source later) (length later.parse_state.now.bytes.now, 0)) c.read-first.result later c.finish.new.self c.finish.result at
    c.finish.ensures.reads in
    let f = joined g.M.Machine.seen (g.M.Machine.step (read_with c.args.self.now)) (
      c.args.cut,
      0,
    ) old mid later c.finish.new.self c.args.state c.read-first.result c.finish.result
    (subst (λ (z : Source). GoesOn (source old) (c.args.cut, 0) false z (length later.parse_state.now.bytes.now, 0)) (sym there) on)
    (ap (seen_as g.M.Machine.seen) c.define_skip.ensures.config) (rw c.define_skip.ensures.attempts refl)
    c.read-first.ensures.reads (not_refused c.read-first.result c.in_default.not-Error) outcome in
    whole_of g.M.Machine.seen (g.M.Machine.step (read_with c.args.self.now))
    (with_skip (source old) c.args.point) old c.finish.new.self c.args.state c.finish.result c.requires.fresh
    (subst (λ (z : Source). IsRefused c.finish.result
    ⊎ HasFlushed g.M.Machine.seen (text_to z (length z.bytes, 0)) (g.M.Machine.step (read_with c.args.self.now)) c.args.state old c.finish.new.self
    c.finish.result) there f)
