use Rattle.std.proofs.Common.{◌≡◌, ℕ, ◌⊎◌, ◌+◌, inl, inr, refl, false, length, subst, sym, drop, arith}
use Rattle.markdown_engine.proofs.Prelude.{drop_more, HasFlushed, IsRefused, read_with, Source, source, text_to, view_config}
use Rattle.markdown_engine.proofs.Push.{around, at_once, flushed_at, joined_ranges, next_cut, not_refused}
use Rattle.markdown_engine.proofs.Push.{nothing_read, only_memory, pushed_as, range_read, same_read}
use Rattle.markdown_engine.proofs.Push.{valid_alone, valid_at, valid_or_refused}
use Rattle.markdown_engine.proofs.tokenizer.Tokenizer.read_in_ranges.Goals as goal

pub loop-cut-init : goal.loop-cut-init
loop-cut-init g c =
    let old = c.args.self.now in
    let x = read_with old in
    nothing_read g.M.Machine.seen (g.M.Machine.valid x) (g.M.Machine.step x) old c.args.state c.args.cuts.now c.requires.cuts
    (valid_alone g.M.Machine.seen (g.M.Machine.valid x) old c.args.state c.requires.fresh c.requires.valid)

pub read-next-requires : goal.read-next-requires
read-next-requires g c =
    let old = c.args.self.now in
    let t = c.loop-cut.self in
    let i = c.loop-cut.cut-index in
    let cuts = c.args.cuts.now in
    let x = read_with old in
    record {
      to = next_cut g.M.Machine.seen (g.M.Machine.valid x) (g.M.Machine.step x) old t c.args.state c.loop-cut.next (drop i cuts) (drop (i + 1) cuts) _
          (drop_more cuts i _ c.loop-cut-test.true) c.loop-cut.invariant;
      valid = inr (valid_at g.M.Machine.valid x (read_with t) (view_config g.M.Machine.seen t) t.attempts.items c.loop-cut.next
          (sym (same_read old t c.loop-cut.invariant.around.parse_state)) c.loop-cut.invariant.holds);
    }

pub returns-in-Error : goal.returns-in-Error
returns-in-Error g c =
    let t = c.loop-cut.self in
    let u = c.read-next.new.self in
    let x = read_with t in
    let refused = only_memory (length x.bytes) (g.M.Machine.valid x) (g.M.Machine.step x) (g.met.M.Machine.lawful x).keeps
    (view_config g.M.Machine.seen u) u.attempts.items c.read-next.result _ c.in-Error.is c.read-next.ensures.valid in
    record {
      reads = inl refused;
      whole = inl refused;
      stays = λ h. c.read-next.ensures.failed refused;
      failed = c.read-next.ensures.failed;
      refused = λ h. refused;
    }

pub finish-requires : goal.finish-requires
finish-requires g c =
    let old = c.args.self.now in
    let t = c.loop-cut.self in
    record {
      to = record { within = omega arith; column = λ e. refl };
      valid = inr (valid_at g.M.Machine.valid (read_with old) (read_with t) (view_config g.M.Machine.seen t) t.attempts.items c.loop-cut.next
          (sym (same_read old t c.loop-cut.invariant.around.parse_state)) c.loop-cut.invariant.holds);
    }

pub loop-cut-preserved : goal.loop-cut-preserved
loop-cut-preserved g c =
    let old = c.args.self.now in
    let t = c.loop-cut.self in
    let u = c.read-next.new.self in
    let i = c.loop-cut.cut-index in
    let cuts = c.args.cuts.now in
    let x = read_with old in
    let at : read_with t ≡ x = same_read old t c.loop-cut.invariant.around.parse_state in
    let read = pushed_as g.M.Machine.seen g.M.Machine.step (read_with t) x _ false c.loop-cut.next t u u c.read-next.result at refl refl
    (record { parse_state = refl; skips = refl }) c.read-next.ensures.reads in
    let valid = valid_or_refused g.M.Machine.valid (read_with t) x (view_config g.M.Machine.seen u) u.attempts.items c.read-next.result at
    c.read-next.ensures.valid in
    range_read g.M.Machine.seen (g.M.Machine.valid x) (g.M.Machine.step x) old t u c.args.state c.loop-cut.next c.read-next.result (drop i cuts)
    (drop (i + 1) cuts) _ (drop_more cuts i _ c.loop-cut-test.true) (not_refused c.read-next.result c.in_default.not-Error) c.loop-cut.invariant read valid

pub returns-clause-reads : goal.returns-clause-reads
returns-clause-reads g c =
    let old = c.args.self.now in
    let mid = c.loop-cut.self in
    let kept = c.loop-cut.invariant in
    let same = around old mid kept.around in
    let x = read_with old in
    let at : read_with mid ≡ x = same_read old mid kept.around.parse_state in
    let end : ℕ × ℕ = (length mid.parse_state.now.bytes.now, 0) in
    let outcome = flushed_at g.M.Machine.seen g.M.Machine.step (read_with mid) x
    (text_to (source mid) end) c.loop-cut.next mid c.finish.new.self c.finish.result at c.finish.ensures.reads in
    let f = joined_ranges g.M.Machine.seen (g.M.Machine.valid x) (g.M.Machine.step x) old mid c.finish.new.self c.args.state c.loop-cut.next c.finish.result _
    kept outcome in
    at_once g.M.Machine.seen (g.M.Machine.step x) old c.finish.new.self c.args.state c.finish.result c.requires.fresh
    (subst (λ (z : Source). IsRefused c.finish.result
    ⊎ HasFlushed g.M.Machine.seen (text_to z (length z.bytes, 0)) (g.M.Machine.step x) c.args.state old c.finish.new.self c.finish.result) same f)
