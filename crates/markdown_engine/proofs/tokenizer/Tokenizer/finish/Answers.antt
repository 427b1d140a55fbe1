use Rattle.std.proofs.Common.{refl, length, inl, inr, true}
use Rattle.markdown_engine.proofs.Prelude.{read_with, source, text_to, view_config}
use Rattle.markdown_engine.proofs.Order.{read_whole}
use Rattle.markdown_engine.proofs.Push.{ended_valid, flushed, flushed_as, halted_as}
use Rattle.markdown_engine.proofs.Total.{feeds_to, has_outcome}
use Rattle.markdown_engine.proofs.tokenizer.Tokenizer.finish.Goals as goal

pub returns-clause-reads : goal.returns-clause-reads
returns-clause-reads g c =
    let old = c.args.self.now in
    let step = g.M.Machine.step (read_with old) in
    let new = c.read-last.new.self in
    let r = c.read-last.result in
    flushed_as g.M.Machine.seen (text_to (source old) c.args.to) step c.args.state old new (record new { failed = c.match-matches.self }) r refl
    (flushed g.M.Machine.seen step c.args.to old new c.args.state r c.read-last.ensures.reads (c.read-last.ensures.ends refl))

pub returns-clause-valid : goal.returns-clause-valid
returns-clause-valid g c = ended_valid g.M.Machine.seen (g.M.Machine.valid (read_with c.args.self.now)) c.read-last.new.self c.read-last.result
    (c.read-last.ensures.ends refl) c.read-last.ensures.valid

pub returns-clause-total : goal.returns-clause-total
returns-clause-total g c =
    let old = c.args.self.now in
    let x = read_with old in
    elim c.requires.valid [
      | inl r ↦ inl r
      | inr h ↦ inr (has_outcome (length old.parse_state.now.bytes.now) (g.M.Machine.valid x) (g.M.Machine.step x) (g.M.Machine.rank x)
          (g.met.M.Machine.lawful x)
          (text_to (source old) c.args.to) (feeds_to (source old) c.args.to c.requires.to.within c.requires.to.column)
          (view_config g.M.Machine.seen old) old.attempts.items c.args.state h)
    ]

pub returns-clause-whole : goal.returns-clause-whole
returns-clause-whole g c =
    let x = read_with c.args.self.now in
    read_whole g.M.Machine.seen (length x.bytes) (g.M.Machine.valid x) (g.M.Machine.step x) (g.M.Machine.rank x)
    (g.met.M.Machine.lawful x) c.read-last.new.self c.read-last.result c.read-last.ensures.valid (c.read-last.ensures.ends refl)

pub returns-clause-halts : goal.returns-clause-halts
returns-clause-halts g c = elim c.read-last.ensures.halts [
  | inl r ↦ inl r
  | inr h ↦ inr (halted_as g.M.Machine.seen g.M.Machine.step g.M.Machine.rank c.args.to true _ c.args.self.now c.read-last.new.self _ c.read-last.result
      refl (record { parse_state = refl; skips = refl }) h)
]
