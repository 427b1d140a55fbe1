-- Texts that are written one after another (CommonMark 6).
use Rattle.std.proofs.Common.{ℕ, false, List, [], ◌++◌, sym, subst}
use Rattle.parse_leaves.proofs.Prelude.{append, append-nil, append_inlines, ArePartsAlike, AreQuiet, Constructs, Inlines, inlines_of, Names, Nodes, Stop, Walk}
use Rattle.parse_leaves.proofs.Prelude.{WritesText}
use Rattle.parse_slots.proofs.Steps.{fill_both, may_both}
use Rattle.parse_inline.specs.Texts.{FillsText}
use Rattle.parse_lines.specs.InContent.{WritesInContent}
use Rattle.parse_lines.proofs.InContent.{contents_both}
use Rattle.parse_strings.proofs.PlainNodes.{plain_both, plain_quiet}
use Rattle.parse_strings.proofs.SoundNodes.{quiet_sound}
use Rattle.parse_references.proofs.Sound.{sound_both}
use Rattle.parse_alike.proofs.Composed.{alike_parts_compose}
use Rattle.parse_leaves.proofs.Spelled.{after_quiet, inlines_append}

module _ {A : Type 0} (on : Constructs) (names : Names) (text : List ℕ) (stop : Stop) (a b c : Walk A) (front after : List ℕ) where
  -- nodes that spell nothing, and then all that is left of a text
  pub quiet_then : (ns : Nodes) (is : Inlines) → AreQuiet ns → FillsText front ns
      → WritesInContent text front ns after stop a b → WritesText on names text after is [] stop b c
      → WritesText on names text (front ++ after) is [] stop a c
  quiet_then ns is quiet fill first second = record {
    nodes = append ns second.nodes;
    writes =
        contents_both text stop a b c front after [] ns second.nodes
        (subst (λ bs. WritesInContent text front ns bs stop a b) (sym (append-nil after)) first) second.writes;
    spells = λ m m' means. subst (ArePartsAlike m m' is) (sym (after_quiet names text false ns second.nodes quiet)) (second.spells m m' means);
    plain = plain_both ns second.nodes (plain_quiet ns quiet) second.plain;
    fill = λ around may. let both = may_both around front after may in fill_both (fill around both.0) (second.fill around both.1);
    sound = sound_both on names text ns second.nodes (quiet_sound on names text ns quiet) second.sound;
  }

  -- some of a text, and then all that is left of it
  pub texts_both : (is js : Inlines) → WritesText on names text front is after stop a b → WritesText on names text after js [] stop b c
      → WritesText on names text (front ++ after) (append_inlines is js) [] stop a c
  texts_both is js first second = record {
    nodes = append first.nodes second.nodes;
    writes =
        contents_both text stop a b c front after [] first.nodes second.nodes
        (subst (λ bs. WritesInContent text front first.nodes bs stop a b) (sym (append-nil after)) first.writes) second.writes;
    spells = λ m m' means.
        subst (ArePartsAlike m m' (append_inlines is js)) (sym (inlines_append names text false first.nodes second.nodes))
        (alike_parts_compose.joined m m' is (inlines_of names text false first.nodes) js (inlines_of names text false second.nodes)
        (first.spells m m' means) (second.spells m m' means));
    plain = plain_both first.nodes second.nodes first.plain second.plain;
    fill = λ around may. let both = may_both around front after may in fill_both (first.fill around both.0) (second.fill around both.1);
    sound = sound_both on names text first.nodes second.nodes first.sound second.sound;
  }
