-- What is in front of the blocks of a text is written: a byte order mark and frontmatter.
use Rattle.std.proofs.Common.{◌≡◌, inl, inr, ◌<◌, ◌≤◌, ◌+◌, ◌-◌, ◌^◌, ℕ, Bool, true, false, ◌&&◌, List, [], ◌∷◌, ◌++◌, Option, None, Some, eqb, refl, sym, ap, ap₂, ◌∙◌, subst, arith, length, get_or, length-append, take}
use Rattle.parse_events.proofs.Prelude.{after_frontmatter, and_parts, append, append-assoc, AreEnding, AreQuiet, Between, Blocks, blocks, cases_Bool}
use Rattle.parse_events.proofs.Prelude.{cond-false, cond-true, Constructs, End, end_at, eqb-true, fold, Follows, forest_in, growth, Growth, if◌then◌else◌}
use Rattle.parse_events.proofs.Prelude.{IsFront, IsInOrder, joined, Kind, LineEnding, lines, named, Nil, Node, node_name, Nodes, one, Standing, standing}
use Rattle.parse_events.proofs.Prelude.{StandsAt, StandsBefore, TEXT_MAX, TextLine, unread, void_nodes, Walk, with_nodes, without_mark, WritesUpTo, written_to}
use Rattle.markdown_options.specs.declared.beside.Kind.TheVariants.{Whitespace}
use Rattle.definition_text.specs.Lines.{has_mark}
use Rattle.definition_inline.specs.CharacterReference.{Names}
use Rattle.definition_block.specs.Definitions.{DefinitionCut, cut_into}
use Rattle.definition_block.specs.Frontmatter.{after_metadata_fence, is_metadata_fence}
use Rattle.definition_text.specs.Ascii.{hyphen, plus}
use Rattle.definition_block.specs.Tree.{children, children_after, with_paragraph}
use Rattle.definition_block.specs.Tree as tree
use Rattle.std.proofs.Math.Seq.{take-append_seam}
use Rattle.event_tokens.specs.Tokens.{is_token}
use Rattle.parse_output.specs.Joined.{text_between}
use Rattle.engine_events.specs.Columns.{between, mark_size}
use Rattle.engine_events.specs.declared.event.Name.TheVariants as n
use Rattle.parse_lines.specs.Content.{end_after}
use Rattle.parse_lines.specs.Standing.{IsLineStart}
use Rattle.parse_lines.specs.Steps.{BeginsAt}
use Rattle.parse_lines.proofs.Ahead.{after_bytes}
use Rattle.parse_lines.proofs.Bytes.{apart_some}
use Rattle.parse_lines.proofs.Spots.{bytes_after}
use Rattle.parse_output.specs.Ends.{first_end}
use Rattle.parse_output.specs.Spots.{next_spot, start}
use Rattle.parse_laid.specs.Laid.{unread_after}
use Rattle.event_grammar.specs.declared.slot.Between.TheVariants.{Lines}
use Rattle.event_grammar.specs.declared.slot.Form.TheVariants.{Plain}
use Rattle.parse_slots.specs.Left.{IsFilled}
use Rattle.parse_slots.proofs.Steps.{fill_none}
use Rattle.parse_open.proofs.Filled as filled
use Rattle.parse_open.proofs.Filled.{StandBetween}
use Rattle.parse_open.specs.Fronts.{SpellsNothing}
use Rattle.parse_open.proofs.Fronts.{front_alone, front_ended, front_none, nothing_both, nothing_mark, nothing_mute}
use Rattle.parse_raw.specs.Laid.{HasFrontmatter, WritesFront, WritesFrontLaid}
use Rattle.parse_events.specs.Document.{StandsAfterMark}
use Rattle.parse_events.proofs.Endings.{quiet_mute}
use Rattle.parse_events.proofs.FrontLines.{SomeFront}

-- ---- the byte order mark

-- a text begins with this mark, if it has one, and its first line begins after that
pub record MarkParts (text : List ℕ) : Type 0 where
  pub mark : List ℕ
  pub parts : text ≡ mark ++ without_mark text
  pub first : IsLineStart text (length mark)
  pub fits : 0 < length mark → is_token n.ByteOrderMark mark ≡ true

no_mark : (text : List ℕ) → has_mark text ≡ false → mark_size text ≡ 0 → MarkParts text
no_mark text none size = record {
  mark = [];
  parts = sym (cond-false (has_mark text) _ _ none);
  first = record { column = refl; mark = omega (arith, size); apart = λ some. absurd (omega (arith, some)) };
  fits = λ some. absurd (omega (arith, some));
}

pub mark_parts : (text : List ℕ) → MarkParts text
mark_parts [] = no_mark [] refl refl
mark_parts (a ∷ []) = no_mark (a ∷ []) refl refl
mark_parts (a ∷ b ∷ []) = no_mark (a ∷ b ∷ []) refl refl
mark_parts (a ∷ b ∷ c ∷ others) =
    let text = a ∷ b ∷ c ∷ others in
    let test = (eqb a 239 && eqb b 187) && eqb c 191 in
    elim (cases_Bool test) [
      | inl is ↦
          let size : mark_size text ≡ 3 = cond-true test _ _ is in
          let first = and_parts (eqb a 239) (eqb b 187) (and_parts (eqb a 239 && eqb b 187) (eqb c 191) is).0 in
          let last : c ≡ 191 = eqb-true c 191 (and_parts (eqb a 239 && eqb b 187) (eqb c 191) is).1 in
          record {
            mark = a ∷ b ∷ c ∷ [];
            parts = ap (λ (xs : List ℕ). a ∷ b ∷ c ∷ xs) (sym (cond-true test _ _ is));
            first = record {
              column = ap (λ (m : ℕ). (fold (next_spot m) start (between 0 3 text)).column) size;
              mark = omega (arith, size);
              apart = λ some return feed. absurd (omega (arith, last, return));
            };
            fits = λ some.
                ap₂ (λ (x : ℕ) (xs : List ℕ). is_token n.ByteOrderMark (x ∷ xs)) (eqb-true a 239 first.0)
                (ap₂ (λ (x y : ℕ). x ∷ y ∷ []) (eqb-true b 187 first.1) last);
          }
      | inr isnt ↦ no_mark text isnt (cond-false test _ _ isnt)
    ]

-- the rest of a text after its byte order mark is made of bytes, too
pub rest_bytes : (text rest : List ℕ) → rest ≡ without_mark text → ((k : ℕ) → get_or text k 0 < 256) → (k : ℕ) → get_or rest k 0 < 256
rest_bytes text rest is bytes =
    let mp = mark_parts text in
    let parts : text ≡ mp.mark ++ rest = mp.parts ∙ ap (λ (xs : List ℕ). mp.mark ++ xs) (sym is) in
    bytes_after mp.mark rest (subst (λ (xs : List ℕ). (k : ℕ) → get_or xs k 0 < 256) parts bytes)

after_nodes : (g h : Growth) (ns ms : Nodes) → g ≡ growth ns [] → h ≡ with_nodes g ms → h ≡ growth (append ns ms) []
after_nodes g h ns ms is grown = grown ∙ ap (λ (x : Growth). with_nodes x ms) is

none_after : (g : Growth) (ns : Nodes) → g ≡ growth Nil [] → with_nodes g ns ≡ growth ns []
none_after g ns is = ap (λ (x : Growth). with_nodes x ns) is

-- ---- frontmatter

front_is : (on : Constructs) (names : Names) (text : List ℕ) (bs : Blocks) (mark space : Nodes) (node : Node) (ending : Option LineEnding) (ns : Nodes)
    → on.frontmatter ≡ true → SpellsNothing on names text mark → AreQuiet space → node_name node ≡ n.Frontmatter → named n.Definition (one node) ≡ []
    → IsFilled Lines Plain node → AreEnding text n.LineEnding ending ns → (ending ≡ None → bs ≡ tree.Nil) → IsFront on names text (append mark (append space (append (one node) ns))) bs
front_is on names text bs mark space node None ns made nothing quiet is none fills are last =
    let front = append mark space in
    let nodes : append mark (append space (append (one node) ns)) ≡ append front (one node) =
    ap (λ (xs : Nodes). append mark (append space (append (one node) xs))) are ∙ sym (append-assoc mark space (one node)) in
    subst (λ (xs : Nodes). IsFront on names text xs bs) (sym nodes)
    (front_alone on names text made bs front node (nothing_both on names text mark space nothing (nothing_mute on names text space (quiet_mute space quiet))) is none fills
    (last refl))
front_is on names text bs mark space node (Some e) ns made nothing quiet is none fills are last =
    let front = append mark space in
    let nodes : append mark (append space (append (one node) ns)) ≡ append front (append (one node) (one are.0)) =
    ap (λ (xs : Nodes). append mark (append space (append (one node) xs))) are.1 ∙ sym (append-assoc mark space (append (one node) (one are.0))) in
    subst (λ (xs : Nodes). IsFront on names text xs bs) (sym nodes)
    (front_ended on names text made bs front node e are.0 (nothing_both on names text mark space nothing (nothing_mute on names text space (quiet_mute space quiet))) is none
    fills (record { named = are.2; empty = are.3; bytes = are.4 }))

-- it is taken by the row of the document
ending_between : (text : List ℕ) (ending : Option LineEnding) (ns : Nodes) → AreEnding text n.LineEnding ending ns → StandBetween ns
ending_between text None ns are = subst StandBetween (sym are) (λ slots takes. fill_none Lines slots)
ending_between text (Some e) ns are =
    subst StandBetween (sym are.1) (filled.ending_between text e are.0 (record { named = are.2; empty = are.3; bytes = are.4 }))

-- no line makes no block
either_cut : (b : Bool) → (if b then cut_into tree.Nil [] else cut_into tree.Nil []) ≡ cut_into tree.Nil []
either_cut true = refl
either_cut false = refl

no_children : (on : Constructs) (before : Kind) → children on before [] ≡ tree.Nil
no_children on before = ap (λ (d : DefinitionCut). tree.join tree.Nil (with_paragraph d)) (either_cut on.definition)

-- nothing is left after frontmatter without a last ending
no_blocks : (on : Constructs) (before : Kind) (rest : List ℕ) (others : List TextLine) → after_frontmatter on (lines rest) ≡ Some others → others ≡ []
    → blocks on before rest ≡ tree.Nil
no_blocks on before rest others found none =
    ap (children_after on before (lines rest)) (found ∙ ap (λ (ls : List TextLine). Some ls) none) ∙ no_children on Whitespace

-- frontmatter is read where it is on
front_on : (on : Constructs) (ls others : List TextLine) → after_frontmatter on ls ≡ Some others → on.frontmatter ≡ true
front_on on [] others found = absurd (let none : None ≡ Some others = found in cc)
front_on on (line ∷ ls) others found = elim (cases_Bool on.frontmatter) [
  | inl is ↦ is
  | inr off ↦
      let none : None ≡ Some others =
      sym (ap (λ (may : Bool). if may && is_metadata_fence hyphen line.content then after_metadata_fence hyphen ls
      else (if may && is_metadata_fence plus line.content then after_metadata_fence plus ls else None)) off)
      ∙ found in
      absurd (cc)
]

module _ {A : Type 0} where
  -- a walk at the start of a text, whose byte order mark is written then
  pub after_mark : (on : Constructs) (text : List ℕ) (before : Kind) (rest : List ℕ) (size : ℕ) (old new : Walk A) → length text ≤ TEXT_MAX
      → ((k : ℕ) → get_or text k 0 < 256) → rest ≡ without_mark text → size ≡ length text - length rest
      → old.on.now ≡ on → old.size ≡ length text → old.left.now ≡ rest → BeginsAt (length text) rest (standing old) → written_to old ≡ first_end
      → IsInOrder text old.out → forest_in text old.out ≡ growth Nil [] → (standing old).outermost ≡ [] → standing new ≡ standing old
      → ((written_to old).index + size < 2 ^ 64 → written_to new ≡ end_at ((written_to old).index + size) 0)
      → ((written_to old).index + size < 2 ^ 64 → WritesUpTo n.ByteOrderMark (end_at ((written_to old).index + size) 0) old new)
      → StandsAfterMark on text before rest new
  after_mark on text before rest size old new fits bytes is sizes constructs all left begins start order forest outside same end writes =
      let mp = mark_parts text in
      let parts : text ≡ mp.mark ++ rest = mp.parts ∙ ap (λ (xs : List ℕ). mp.mark ++ xs) (sym is) in
      let long : length text ≡ length mp.mark + length rest = ap length parts ∙ length-append mp.mark rest in
      let zero : (written_to old).index ≡ 0 = ap (λ (x : End). x.index) start in
      let short : (written_to old).index + size < 2 ^ 64 = omega (arith, zero, sizes, fits) in
      let to = end_at ((written_to old).index + size) 0 in
      let follows : Follows text (written_to old) to = subst (λ (x : End). Follows text x to) (sym start) (record {
        forward = omega arith;
        within = omega (arith, zero, sizes);
        columns = λ at. omega arith;
        whole = inl refl;
      }) in
      let reached : (written_to old).index + size ≡ length mp.mark = omega (arith, zero, sizes, long) in
      let none : length mp.mark - 0 ≡ length mp.mark = omega arith in
      let between_is : text_between text (written_to old) to ≡ mp.mark =
      ap₂ (text_between text) start (ap (λ (k : ℕ). end_at k 0) reached)
      ∙ ap (between 0 (length mp.mark)) parts ∙ ap (λ (k : ℕ). take k (mp.mark ++ rest)) none ∙ take-append_seam mp.mark rest in
      let there : (written_to old).index + size ≡ 0 + length mp.mark = omega (arith, reached) in
      let after : to ≡ end_after (written_to old) (length mp.mark) =
      ap (λ (k : ℕ). end_at k 0) there ∙ sym (ap (λ (e : End). end_after e (length mp.mark)) start ∙ after_bytes 0 (length mp.mark)) in
      let written = writes short text order (record {
        follows = follows;
        bytes = λ apart. ap (is_token n.ByteOrderMark) between_is ∙ mp.fits (apart_some (written_to old) to mp.mark after apart);
      }) in
      let nodes = void_nodes text n.ByteOrderMark (written_to old) to in
      let st : StandsAt text (Between (unread before (lines rest))) (standing old) = begins text mp.mark before fits refl bytes parts mp.first in
      record {
        front = nodes;
        nothing = λ names. nothing_mark on names text (written_to old) to;
        fill = filled.mark_fill text (written_to old) to;
        constructs = ap (λ (s : Standing). s.on) same ∙ constructs;
        outside = ap (λ (s : Standing). s.outermost) same ∙ outside;
        left = ap (λ (s : Standing). s.left) same ∙ left;
        order = written.order;
        stands = subst (StandsAt text (Between (unread before (lines rest)))) (sym same) st;
        written =
            end short
            ∙ ap (λ (k : ℕ). end_at k 0)
            (omega (arith, zero, sizes, long, ap (λ (s : Standing). s.size) same, all, ap (λ (s : Standing). length s.left) same, ap length left));
        forest = written.forest ∙ none_after (forest_in text old.out) nodes forest;
      }

  -- a text that has no frontmatter
  pub before_all : (on : Constructs) (text : List ℕ) (before : Kind) (rest : List ℕ) (w : Walk A) → after_frontmatter on (lines rest) ≡ None
      → StandsAfterMark on text before rest w → StandsBefore on text before rest w
  before_all on text before rest w none was = record {
    front = was.front;
    is_front = λ names. front_none on names text (blocks on before rest) was.front (was.nothing names);
    fill = filled.before_page was.front was.fill;
    constructs = was.constructs;
    outside = was.outside;
    order = was.order;
    stands = subst (λ (ls : Option (List TextLine)). StandsAt text (Between (unread_after before (lines rest) ls)) (standing w)) (sym none) was.stands;
    written = was.written;
    forest = was.forest;
  }

  -- a text that begins with it, of which these bytes are the frontmatter
  pub before_others : (on : Constructs) (text : List ℕ) (before : Kind) (rest left own : List ℕ) (old new : Walk A) (some : SomeFront on rest left)
      → own ≡ joined some.parts.front → WritesFrontLaid (length (lines own)) old new → StandsAfterMark on text before rest old → StandsBefore on text before rest new
  before_others on text before rest left own old new some is writes was =
      let fp = some.parts in
      let count : length (lines own) ≡ length fp.front = ap (λ (xs : List ℕ). length (lines xs)) is ∙ ap length fp.own in
      let has : HasFrontmatter old.on.now fp.front (lines old.left.now) some.others = record {
        parts = ap lines was.left ∙ fp.parts;
        found = ap₂ (λ (c : Constructs) (xs : List ℕ). after_frontmatter c (lines xs)) was.constructs was.left ∙ some.found;
      } in
      let st : StandsAt text (Between (unread before (lines old.left.now))) (standing old) =
      subst (λ (xs : List ℕ). StandsAt text (Between (unread before (lines xs))) (standing old)) (sym was.left) was.stands in
      let written : WritesFront text some.others old new = writes text before fp.front some.others count has st was.outside was.written was.order in
      let nodes = append written.before (append (one written.node) written.nodes) in
      record {
        front = append was.front nodes;
        is_front = λ names.
            front_is on names text (blocks on before rest) was.front written.before written.node written.ending written.nodes
            (front_on on (lines rest) some.others some.found) (was.nothing names) written.are_quiet
            written.is_front written.definitions written.filled written.are_ending (λ none. no_blocks on before rest some.others some.found (written.last none));
        fill =
            filled.front_fill was.front written.before written.nodes written.node was.fill
            (filled.mute_between written.before (quiet_mute written.before written.are_quiet)) written.is_front written.filled
            (ending_between text written.ending written.nodes written.are_ending);
        constructs = written.around.0 ∙ was.constructs;
        outside = written.around.1 ∙ was.outside;
        order = written.writes.order;
        stands =
            subst (λ (ls : Option (List TextLine)). StandsAt text (Between (unread_after before (lines rest) ls)) (standing new)) (sym some.found) written.stands;
        written = written.written;
        forest = after_nodes (forest_in text old.out) (forest_in text new.out) was.front nodes was.forest written.writes.forest;
      }
