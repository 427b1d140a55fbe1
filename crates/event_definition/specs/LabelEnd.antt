-- Links and images: their labels, and the resource or reference behind (CommonMark 6.3 and 6.4).
use Rattle.std.specs.Prelude.{ℕ, ◌+◌, ◌-◌, if◌then◌else◌, codes, List, [], ◌∷◌, Option, None, Some, drop, length, take}
use Rattle.markdown_options.specs.declared.configuration.Constructs.{Constructs}
use Rattle.definition_text.specs.Bytes.{begins_with}
use Rattle.definition_text.specs.Columns.{Code}
use Rattle.definition_text.specs.Content.{Part, text_before}
use Rattle.definition_inline.specs.CharacterReference.{Names}
use Rattle.definition_inline.specs.Inline.{LinkedKind, Link, Image}
use Rattle.definition_inline.specs.Label.{label_at}
use Rattle.definition_inline.specs.Resource.{LinkResource, resource_at}
use Rattle.engine_events.specs.declared.event.Name.{Name}
use Rattle.engine_events.specs.declared.event.Name.TheVariants as n
use Rattle.event_definition.specs.Pieces.{Pieces, around, join, join_all, token}
use Rattle.event_definition.specs.Sized.{Sized, no_pieces, sized}
use Rattle.event_definition.specs.Quoted.{Quoted, quoted, quoted_pieces}
use Rattle.event_definition.specs.Resource.{resource_pieces}

-- ---- behind a label

abbrev pub of_reference : Quoted
of_reference = quoted n.Reference n.ReferenceMarker n.ReferenceString

-- `[label]` of a full reference, `[]` of a collapsed one, nothing of a shortcut
abbrev pub reference_behind : Constructs → Names → List Code → Option Part → Sized
reference_behind on names content (Some label) =
    sized (quoted_pieces on names of_reference (text_before content label.rest)) (length content - length label.rest)
reference_behind on names content None = if begins_with (codes "[]") content then sized (quoted_pieces on names of_reference (take 2 content)) 2 else no_pieces

abbrev pub resource_or : Constructs → Names → List Code → Option LinkResource → Sized
resource_or on names content None = reference_behind on names content (label_at content)
resource_or on names content (Some found) = resource_pieces on names content found

-- a resource, a reference or nothing
abbrev pub behind_label : Constructs → Names → List Code → Sized
behind_label on names content = resource_or on names content (resource_at content)

-- ---- a label

-- `]`
abbrev pub label_end : List Code → Pieces
label_end content = around n.LabelEnd (token n.LabelMarker (take 1 content))

-- how many codes `[` or `![` has
abbrev pub label_start_size : LinkedKind → ℕ
label_start_size Link = 1
label_start_size Image = 2

abbrev pub label_start : LinkedKind → List Code → Pieces
label_start Link content = around n.LabelLink (token n.LabelMarker (take 1 content))
label_start Image content = around n.LabelImage (join (token n.LabelImageMarker (take 1 content)) (token n.LabelMarker (take 1 (drop 1 content))))

abbrev pub linked_name : LinkedKind → Name
linked_name Link = n.Link
linked_name Image = n.Image

-- a link or an image around what its label holds, and what is behind the label
abbrev pub linked_pieces : Constructs → Names → LinkedKind → List Code → Sized → Sized
linked_pieces on names kind content kids =
    let size = label_start_size kind + kids.size in
    let end = drop size content in
    let behind = behind_label on names (drop 1 end) in
    sized
    (around (linked_name kind) (join
    (around n.Label (join_all (label_start kind content ∷ around n.LabelText kids.pieces ∷ label_end end ∷ [])))
    behind.pieces))
    (size + 1 + behind.size)
