-- What is looked for in events that are written around nodes.
use Rattle.std.proofs.Common.{◌≡◌, ◌&&◌, ℕ, true, false, List, [], ◌∷◌, Option, None, Some, cond, refl, sym, ap, subst, ◌∙◌}
use Rattle.markdown_options.specs.declared.configuration.Constructs.{Constructs}
use Rattle.parse_inline.proofs.Prelude.{append-nil, ArePlain, Around, cond-false, cut, End, enter_at, exit_at, is_listed, Name, named, named_in, Node, Nodes}
use Rattle.parse_inline.proofs.Prelude.{Names, one, option_or, own, own_in, plain_one, same_name, sought_names}
use Rattle.engine_events.specs.declared.event.Event.{Event}
use Rattle.engine_events.specs.declared.event.Name.TheVariants as n
use Rattle.event_grammar.specs.References.{media_names}
use Rattle.parse_output.specs.Forest.{is_nil}
use Rattle.parse_references.specs.Sound.{AreSound, asked_names}
use Rattle.parse_references.proofs.Sound.{sound_around, sound_one}

or_none : {B : Type 0} (o : Option B) → option_or o None ≡ o
or_none None = refl
or_none (Some x) = refl

-- one node alone
pub own_one : (name : Name) (node : Node) → own name (one node) ≡ own_in name node
own_one name node = or_none (own_in name node)

pub named_one : (name : Name) (node : Node) → named name (one node) ≡ named_in name node
named_one name node = append-nil (named_in name node)

-- nodes without definitions and delimiters of columns
pub record HaveNoOther (ns : Nodes) : Type 0 where
  pub definitions : named n.Definition ns ≡ []
  pub columns : named n.GfmTableDelimiterCellValue ns ≡ []

named_around : (name : Name) (enter exit : Event) (kids : Nodes) → same_name enter.name name ≡ false → named name kids ≡ []
    → named name (one (Around enter kids exit)) ≡ []
named_around name enter exit kids other none =
    named_one name (Around enter kids exit)
    ∙ cond-false (same_name enter.name name) (Around enter kids exit ∷ named name kids) (named name kids) other ∙ none

-- a link, an image or a call around these
pub plain_media : (enter exit : Event) (kids : Nodes) → is_listed media_names enter.name ≡ true → same_name enter.name n.Definition ≡ false
    → same_name enter.name n.GfmTableDelimiterCellValue ≡ false → HaveNoOther kids → ArePlain (one (Around enter kids exit))
plain_media enter exit kids media no_definition no_column none = record {
  tails = λ name listed.
      own_one name (Around enter kids exit)
      ∙ ap (λ b. cond b None (cond (same_name enter.name name) (Some (Around enter kids exit)) (own name kids))) media;
  definitions = named_around n.Definition enter exit kids no_definition none.definitions;
  columns = named_around n.GfmTableDelimiterCellValue enter exit kids no_column none.columns;
}

-- what isn't data isn't cut into bytes
pub cut_one : (enter exit : Event) (kids : Nodes) → same_name enter.name n.Data ≡ false → cut (Around enter kids exit) ≡ one (Around enter kids exit)
cut_one enter exit kids no_data = cond-false (same_name enter.name n.Data && is_nil kids) _ _ (ap (λ b. b && is_nil kids) no_data)

-- another event around plain nodes
pub plain_event : (text : List ℕ) (name : Name) (from to : End) (kids : Nodes) → is_listed sought_names name ≡ false → same_name name n.Data ≡ false
    → ArePlain kids
    → ArePlain (cut (Around (enter_at text name from) kids (exit_at text name to)))
plain_event text name from to kids other no_data p =
    subst ArePlain (sym (cut_one (enter_at text name from) (exit_at text name to) kids no_data))
    (plain_one (Around (enter_at text name from) kids (exit_at text name to)) other p)

-- and around sound ones
pub sound_event : (on : Constructs) (names : Names) (text : List ℕ) (name : Name) (from to : End) (kids : Nodes) → is_listed asked_names name ≡ false
    → same_name name n.Data ≡ false → AreSound on names text kids
    → AreSound on names text (cut (Around (enter_at text name from) kids (exit_at text name to)))
sound_event on names text name from to kids unasked no_data sound =
    let node = Around (enter_at text name from) kids (exit_at text name to) in
    subst (AreSound on names text) (sym (cut_one (enter_at text name from) (exit_at text name to) kids no_data))
    (sound_one on names text node (sound_around on names text node unasked sound))
