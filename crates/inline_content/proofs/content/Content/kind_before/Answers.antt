use Rattle.std.proofs.Common.{◌≡◌, ℕ, ◌<◌, ◌-◌, eqb, get_or, take, false, inl, inr, sym, ap, ◌∙◌, arith, subst}
use Rattle.inline_content.proofs.Prelude.{ends_line, ne_eqb, or_from}
use Rattle.std.proofs.lemmas.List.{length-take-le}
use Rattle.inline_content.proofs.Places.{place_ending, place_character}
use Rattle.inline_content.proofs.content.Content.kind_before.Goals.{then-character-eq10-via-then-character-eq10}
use Rattle.inline_content.proofs.content.Content.kind_before.Goals.{then-character-eq10-via-else-character-eq10+then-character-eq13}
use Rattle.inline_content.proofs.content.Content.kind_before.Goals as goal

pub returns-then-character-eq10 : goal.returns-then-character-eq10
returns-then-character-eq10 g c = λ others.
    let p = g.T.Tables.punctuation_of c.args.tables.now in
    let text = c.args.self.text.now in
    let xs = take c.args.place text in
    let marks = c.args.self.marks.now in
    let whole : c.args.place ≡ c.args.place - 0 = omega arith in
    let is : take c.args.place c.args.self.text.now ≡ c.range.result.now = ap (λ k. take k c.args.self.text.now) whole ∙ sym c.range.ensures.value in
    let last = c.in-Some.ensures.last in
    let bytes : (k : ℕ) → get_or xs k 0 < 256 = subst (λ l. (k : ℕ) → get_or l k 0 < 256) (sym is) c.last_character.ensures.bytes in
    let long = length-take-le c.args.place text c.requires.0 in
    c.kind_at-then-character-eq10.ensures
    ∙ place_ending p marks xs last.front others c.in-Some.character c.args.place (is ∙ last.same)
    (elim c.then-character-eq10.branch [
      | then-character-eq10-via-then-character-eq10 w ↦ inl w.if-character-eq10.true
      | then-character-eq10-via-else-character-eq10+then-character-eq13 w ↦ inr w.if-character-eq13.true
    ])
    bytes long

pub returns-else-character-eq13 : goal.returns-else-character-eq13
returns-else-character-eq13 g c = λ others.
    let p = g.T.Tables.punctuation_of c.args.tables.now in
    let ch = c.in-Some.character in
    let whole : c.args.place ≡ c.args.place - 0 = omega arith in
    let is : take c.args.place c.args.self.text.now ≡ c.range.result.now = ap (λ k. take k c.args.self.text.now) whole ∙ sym c.range.ensures.value in
    let last = c.in-Some.ensures.last in
    let clear : ends_line ch ≡ false = or_from (eqb ch 10) (eqb ch 13) (ne_eqb ch 10 c.if-character-eq10.false) (ne_eqb ch 13 c.if-character-eq13.false) in
    c.character_kind.ensures.kind
    ∙ place_character p c.args.self.marks.now (take c.args.place c.args.self.text.now) last.front others ch (is ∙ last.same)
    (omega (arith, c.character_kind.ensures.scalar)) clear
