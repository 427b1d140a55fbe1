-- The nodes of a table are sound (GFM 4.10).
use Rattle.std.proofs.Common.{ℕ, List, [], ◌∷◌, Option, None, Some, refl, sym, ap, subst}
use Rattle.parse_tables.proofs.Prelude.{AlignKind, append, AreBody, AreEnding, AreOnNextLine, AreRowNodes, BlockLine, Cons, IsHeadNode, LineEnding, Node}
use Rattle.parse_tables.proofs.Prelude.{Nodes, one, Reading}
use Rattle.markdown_options.specs.declared.configuration.Constructs.{Constructs}
use Rattle.definition_inline.specs.CharacterReference.{Names}
use Rattle.engine_events.specs.Names.{is_listed}
use Rattle.engine_events.specs.declared.event.Name.TheVariants as n
use Rattle.event_grammar.specs.declared.slot.Between.TheVariants.{Lines}
use Rattle.event_grammar.specs.declared.slot.Form.TheVariants.{Plain}
use Rattle.parse_references.specs.Sound.{AreSound, IsSound, asked_names}
use Rattle.parse_references.proofs.Sound.{sound_around, sound_both, sound_filled, sound_one}
use Rattle.parse_strings.proofs.SoundNodes.{empty_sound, quiet_sound}

-- ---- lines

module _ (on : Constructs) (names : Names) (text : List ℕ) where
  end_sound : (ending : Option LineEnding) (ns : Nodes) → AreEnding text n.LineEnding ending ns → AreSound on names text ns
  end_sound None ns are = subst (AreSound on names text) (sym are) tt
  end_sound (Some ending) ns are =
      subst (AreSound on names text) (sym are.1) (sound_one on names text are.0 (empty_sound on names text are.0 n.LineEnding are.2 are.3 refl))

  next_sound : (ending : Option LineEnding) (others ns : Nodes) → AreOnNextLine text ending others ns → AreSound on names text others → AreSound on names text ns
  next_sound ending others ns next sound =
      subst (AreSound on names text) (sym next.all)
      (sound_both on names text next.ends (append next.quiet others) (end_sound ending next.ends next.are_ending)
      (sound_both on names text next.quiet others (quiet_sound on names text next.quiet next.are_quiet) sound))

-- ---- tables

module _ (r : Reading) (text : List ℕ) where
  rows_sound : (ending : Option LineEnding) (lines : List BlockLine) (ns : Nodes) → AreRowNodes r text ending lines ns → AreSound r.parse.constructs r.tables.names text ns
  rows_sound ending [] ns are = subst (AreSound r.parse.constructs r.tables.names text) (sym are) tt
  rows_sound ending (line ∷ others) ns are =
      next_sound r.parse.constructs r.tables.names text ending (Cons are.0 are.1) ns are.2 (are.3.sound, rows_sound line.ending others are.1 are.4)

  head_sound : (line : BlockLine) (ending : Option LineEnding) (columns : List AlignKind) (node : Node) → IsHeadNode r text line ending columns node
      → IsSound r.parse.constructs r.tables.names text node
  head_sound line ending columns node head =
      let on = r.parse.constructs in
      let names = r.tables.names in
      sound_around on names text node (ap (is_listed asked_names) head.name)
      (subst (AreSound on names text) (sym head.kids) (
        head.is_row.sound,
        next_sound on names text ending (append head.space (one head.delimiters)) head.others head.on_next
            (sound_both on names text head.space (one head.delimiters) (quiet_sound on names text head.space head.are_quiet)
            (sound_one on names text head.delimiters
            (sound_filled on names text 4 Lines Plain n.GfmTableDelimiterRow head.delimiters head.delimiters_name refl head.delimiters_filled))),
      ))

  body_sound : (ending : Option LineEnding) (lines : List BlockLine) (ns : Nodes) → AreBody r text ending lines ns → AreSound r.parse.constructs r.tables.names text ns
  body_sound ending [] ns are = subst (AreSound r.parse.constructs r.tables.names text) (sym are) tt
  body_sound ending (line ∷ others) ns are =
      let on = r.parse.constructs in
      let names = r.tables.names in
      next_sound on names text ending (one are.0) ns are.3
      (sound_one on names text are.0
      (sound_around on names text are.0 (ap (is_listed asked_names) are.4)
      (subst (AreSound on names text) (sym are.5) (are.6.sound, rows_sound line.ending others are.2 are.7))))

  pub table_sound : (line : BlockLine) (ending last : Option LineEnding) (columns : List AlignKind) (others : List BlockLine) (head : Node) (body : Nodes)
      → IsHeadNode r text line ending columns head → AreBody r text last others body → AreSound r.parse.constructs r.tables.names text (append (one head) body)
  table_sound line ending last columns others head body is_head is_body =
      (head_sound line ending columns head is_head, body_sound last others body is_body)
