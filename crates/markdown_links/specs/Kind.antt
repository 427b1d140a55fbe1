-- Which events begin links, and of which kind.
use Rattle.std.specs.Prelude.{Bool, true, false, ◌||◌, if◌then◌else◌, Option, None, Some}
use Rattle.engine_events.specs.Names.{same_name}
use Rattle.engine_events.specs.declared.event.Name.{Name}
use Rattle.engine_events.specs.declared.event.Name.TheVariants as n
use Rattle.markdown_links.specs.declared.kind.LinkKind.{LinkKind}
use Rattle.markdown_links.specs.declared.kind.LinkKind.TheVariants as kinds

-- a link without brackets (GFM 6.9)
abbrev pub is_literal : Name → Bool
is_literal name =
    same_name name n.GfmAutolinkLiteralEmail || (same_name name n.GfmAutolinkLiteralMailto || (same_name name n.GfmAutolinkLiteralProtocol
    || (same_name name n.GfmAutolinkLiteralWww || same_name name n.GfmAutolinkLiteralXmpp)))

-- the kind of link that an event of this name begins, if it begins one
abbrev pub kind_of : Name → Option LinkKind
kind_of name =
    if same_name name n.Link then Some kinds.Link
    else (if same_name name n.Image then Some kinds.Image
    else (if same_name name n.Autolink then Some kinds.Autolink
    else (if is_literal name then Some kinds.Literal
    else (if same_name name n.Definition then Some kinds.Definition
    else None))))

abbrev pub is_definition : LinkKind → Bool
is_definition kinds.Link = false
is_definition kinds.Image = false
is_definition kinds.Autolink = false
is_definition kinds.Literal = false
is_definition kinds.Definition = true
