use Rattle.std.proofs.Common.{◌≡◌, ◌∙◌, ◌⊎◌, ℕ, inl, inr, true, false, Bool, length, refl, subst, sym}
use Rattle.markdown_engine.proofs.Prelude.{IsRefused, MovesOn, read_with, State, Tokenizer, view_config}
use Rattle.engine_states.specs.declared.state.State.TheVariants as states
use Rattle.markdown_engine.specs.Machine.{HasReached}
use Rattle.markdown_engine.proofs.Push.{halted_as, halts_from, not_refused, only_memory, opened_valid, pushed_as, same_cut, same_read, unless_refused, valid_at, valid_or_refused}
use Rattle.markdown_engine.proofs.Computing.{stays_unless}
use Rattle.markdown_engine.proofs.tokenizer.Tokenizer.push.Goals as goal
use Rattle.markdown_engine.proofs.tokenizer.Tokenizer.push.Goals.{then-self, else-self, in-Error, in_default}

-- memory wasn't refused before
unless_failed : {P : Type 0} (b : Bool) → b ≡ false → (b ≡ true) ⊎ P → P
unless_failed b e (inl h) = absurd (let f : true ≡ false = cc in cc)
unless_failed b e (inr p) = p

refused_moves : (s : State) → IsRefused s → MovesOn s
refused_moves (states.Error m) r = tt
refused_moves (states.Next n) r = tt
refused_moves (states.Retry n) r = r
refused_moves states.Ok r = tt
refused_moves states.Nok r = tt

module _ {M T A : Type 0} (to end : ℕ × ℕ) (failed : Bool) where
  refused_reached : (t : Tokenizer M T A) (s x : State) → x ≡ s → IsRefused s → HasReached to (record t { end = end; failed = failed }) x
  refused_reached t s x e r = subst (λ (z : State). HasReached to (record t { end = end; failed = failed }) z) (sym e) (there s r)
    where
      there : (s : State) → IsRefused s → HasReached to (record t { end = end; failed = failed }) s
      there (states.Error m) r = tt
      there (states.Next n) r = absurd r
      there (states.Retry n) r = r
      there states.Ok r = absurd r
      there states.Nok r = absurd r

  -- neither the range's end nor whether it failed counts
  reached_as : (t u : Tokenizer M T A) (s x : State) → t ≡ u → x ≡ s → HasReached to u s → HasReached to (record t { end = end; failed = failed }) x
  reached_as t u s x e f h =
      subst (λ (z : Tokenizer M T A). HasReached to (record z { end = end; failed = failed }) x) (sym e)
      (subst (λ (z : State). HasReached to (record u { end = end; failed = failed }) z) (sym f) (there s h))
    where
      there : (s : State) → HasReached to u s → HasReached to (record u { end = end; failed = failed }) s
      there (states.Error m) h = tt
      there (states.Next n) h = h
      there (states.Retry n) h = h
      there states.Ok h = h
      there states.Nok h = h

pub move_to-requires : goal.move_to-requires
move_to-requires g c = record { from = c.requires.from }

pub read-next-requires-clause-to : goal.read-next-requires-clause-to
read-next-requires-clause-to g c = same_cut c.args.self.now c.move_to.new.self c.args.to c.move_to.ensures.same.parse_state c.requires.to

pub returns-clause-refused : goal.returns-clause-refused
returns-clause-refused g c e = elim c.match-matches.branch [
  | in-Error v ↦ elim c.if-self.branch [
    | then-self w ↦ rw w.next-is w.out_of_memory-next.ensures
    | else-self w ↦ (
        let x = read_with w.move_to.new.self in
        let new = w.read-next.new.self in
        rw w.next-is (only_memory (length x.bytes) (g.M.Machine.valid x) (g.M.Machine.step x) (g.met.M.Machine.lawful x).keeps
        (view_config g.M.Machine.seen new) new.attempts.items w.read-next.result _ (sym w.next-is ∙ v.in-Error.is) w.read-next.ensures.valid))
  ]
  | in_default v ↦ absurd (let f : true ≡ false = sym e ∙ v.self-is in cc)
]

pub returns-clause-moves_on : goal.returns-clause-moves_on
returns-clause-moves_on g c = elim c.if-self.branch [
  | then-self w ↦ rw w.next-is (refused_moves _ w.out_of_memory-next.ensures)
  | else-self w ↦ rw w.next-is w.read-next.ensures.moves_on
]

pub returns-clause-reached : goal.returns-clause-reached
returns-clause-reached g c = elim c.if-self.branch [
  | then-self w ↦ refused_reached c.args.to c.args.to c.match-matches.self c.if-self.self w.out_of_memory-next.result c.if-self.next w.next-is
      w.out_of_memory-next.ensures
  | else-self w ↦ reached_as c.args.to c.args.to c.match-matches.self c.if-self.self w.read-next.new.self w.read-next.result c.if-self.next w.self-is w.next-is
      w.read-next.ensures.reached
]

pub returns-clause-parse_state : goal.returns-clause-parse_state
returns-clause-parse_state g c = elim c.if-self.branch [
  | then-self w ↦ rw w.self-is refl
  | else-self w ↦ rw w.self-is (w.read-next.ensures.reads.0.parse_state ∙ w.move_to.ensures.same.parse_state)
]

pub returns-clause-failed : goal.returns-clause-failed
returns-clause-failed g c e = elim c.match-matches.branch [
  | in-Error v ↦ v.self-is
  | in_default v ↦ elim c.if-self.branch [
    | then-self w ↦ absurd (not_refused c.if-self.next v.in_default.not-Error
        (subst (λ (z : State). IsRefused z) (sym w.next-is) w.out_of_memory-next.ensures))
    | else-self w ↦ absurd (let f : true ≡ false = sym e ∙ w.if-self.false in cc)
  ]
]

pub read-next-requires-clause-valid : goal.read-next-requires-clause-valid
read-next-requires-clause-valid g c =
    let old = c.args.self.now in
    let start = c.move_to.new.self in
    let valid = unless_failed old.failed c.if-self.false c.requires.valid in
    let there = opened_valid g.M.Machine.seen (g.M.Machine.valid (read_with old)) (g.M.Machine.step (read_with old)) c.args.from old start c.args.state
    (g.met.M.Machine.lawful (read_with old)).keeps c.requires.moves_on c.move_to.ensures valid in
    let at : read_with start ≡ read_with old = same_read old start c.move_to.ensures.same.parse_state in
    inr (valid_at g.M.Machine.valid (read_with old) (read_with start) (view_config g.M.Machine.seen start) start.attempts.items c.args.state
    (let e : read_with old ≡ read_with start = cc in e) there)

pub returns-clause-valid : goal.returns-clause-valid
returns-clause-valid g c =
    let old = c.args.self.now in
    let x = read_with old in
    elim c.match-matches.branch [
      | in-Error v ↦ inl v.self-is
      | in_default v ↦ elim c.if-self.branch [
        | then-self w ↦ absurd (not_refused c.if-self.next v.in_default.not-Error
            (subst (λ (z : State). IsRefused z) (sym w.next-is) w.out_of_memory-next.ensures))
        | else-self w ↦ (
            let start = w.move_to.new.self in
            let new = w.read-next.new.self in
            let n : IsRefused w.read-next.result → ⊥ =
            λ r. not_refused c.if-self.next v.in_default.not-Error (subst (λ (z : State). IsRefused z) (sym w.next-is) r) in
            inr (rw (w.next-is, w.self-is) (unless_refused w.read-next.result n (valid_or_refused g.M.Machine.valid (read_with start) x
            (view_config g.M.Machine.seen new) new.attempts.items w.read-next.result
            (same_read old start w.move_to.ensures.same.parse_state) w.read-next.ensures.valid))))
      ]
    ]

pub returns-clause-reads : goal.returns-clause-reads
returns-clause-reads g c =
    let old = c.args.self.now in
    elim c.if-self.branch [
      | then-self w ↦ inl (elim c.match-matches.branch [
        | in-Error v ↦ v.self-is
        | in_default v ↦ absurd (not_refused c.if-self.next v.in_default.not-Error
            (subst (λ (z : State). IsRefused z) (sym w.next-is) w.out_of_memory-next.ensures))
      ])
      | else-self w ↦ (
          let start = w.move_to.new.self in
          let at : read_with start ≡ read_with old = same_read old start w.move_to.ensures.same.parse_state in
          inr (
            start,
            w.move_to.ensures,
            rw (
              w.next-is,
              w.self-is,
            ) (pushed_as g.M.Machine.seen g.M.Machine.step (read_with start)
                (read_with old) c.args.to false c.args.state start w.read-next.new.self _ w.read-next.result at refl refl
                (record { parse_state = refl; skips = refl }) w.read-next.ensures.reads),
          ))
    ]

pub returns-clause-evaluated : goal.returns-clause-evaluated
returns-clause-evaluated g c =
    let old = c.args.self.now in
    let x = read_with old in
    elim c.match-matches.branch [
      | in-Error v ↦ inl v.self-is
      | in_default v ↦ elim c.if-self.branch [
        | then-self w ↦ absurd (not_refused c.if-self.next v.in_default.not-Error
            (subst (λ (z : State). IsRefused z) (sym w.next-is) w.out_of_memory-next.ensures))
        | else-self w ↦ (
            let start = w.move_to.new.self in
            let new = w.read-next.new.self in
            let valid = unless_failed old.failed w.if-self.false c.requires.valid in
            let there = opened_valid g.M.Machine.seen (g.M.Machine.valid x) (g.M.Machine.step x) c.args.from old start c.args.state
            (g.met.M.Machine.lawful x).keeps c.requires.moves_on w.move_to.ensures valid in
            let at : read_with start ≡ x = same_read old start w.move_to.ensures.same.parse_state in
            let after : read_with new ≡ x = same_read start new w.read-next.ensures.reads.0.parse_state ∙ at in
            let n : IsRefused w.read-next.result → ⊥ =
            λ r. not_refused c.if-self.next v.in_default.not-Error (subst (λ (z : State). IsRefused z) (sym w.next-is) r) in
            let held = valid_or_refused g.M.Machine.valid (read_with start) x (view_config g.M.Machine.seen new) new.attempts.items w.read-next.result at
            w.read-next.ensures.valid in
            let goes = pushed_as g.M.Machine.seen g.M.Machine.step (read_with start) x c.args.to false c.args.state start new new w.read-next.result at refl
            refl (record { parse_state = refl; skips = refl }) w.read-next.ensures.reads in
            inr (
              start,
              w.move_to.ensures,
              rw (w.next-is, w.self-is) (stays_unless g.M.Machine.seen x g.M.Machine.valid g.M.Machine.step g.M.Machine.rank
                  (g.met.M.Machine.lawful x) c.args.to start new c.args.state w.read-next.result at after there n held goes.1),
            ))
      ]
    ]

pub returns-clause-halts : goal.returns-clause-halts
returns-clause-halts g c =
    let old = c.args.self.now in
    elim c.match-matches.branch [
      | in-Error v ↦ inl v.self-is
      | in_default v ↦ elim c.if-self.branch [
        | then-self w ↦ absurd (not_refused c.if-self.next v.in_default.not-Error
            (subst (λ (z : State). IsRefused z) (sym w.next-is) w.out_of_memory-next.ensures))
        | else-self w ↦ (
            let start = w.move_to.new.self in
            let n : IsRefused w.read-next.result → ⊥ =
            λ r. not_refused c.if-self.next v.in_default.not-Error (subst (λ (z : State). IsRefused z) (sym w.next-is) r) in
            inr (rw (w.next-is, w.self-is) (halted_as g.M.Machine.seen g.M.Machine.step g.M.Machine.rank c.args.to false _ old w.read-next.new.self _
            w.read-next.result refl (record { parse_state = refl; skips = refl })
            (halts_from g.M.Machine.seen g.M.Machine.step g.M.Machine.rank c.args.from c.args.to old start w.read-next.new.self c.args.state
            w.read-next.result c.requires.from w.move_to.ensures (unless_refused w.read-next.result n w.read-next.ensures.halts)))))
      ]
    ]
