-- What the document may hold.
use Rattle.std.proofs.Common.{◌≡◌, List, [], true, ap}
use Rattle.engine_events.specs.declared.event.Name.TheVariants as n
use Rattle.parse_events.proofs.Prelude.{Mark}
use Rattle.parse_output.specs.Children.{holds_blocks, holds_lines, may_enter}

pub document_mark : (marks : List Mark) → marks ≡ [] → may_enter marks n.ByteOrderMark ≡ true
unfolding may_enter
document_mark marks none = ap (λ ms. may_enter ms n.ByteOrderMark) none

pub document_frontmatter : (marks : List Mark) → marks ≡ [] → may_enter marks n.Frontmatter ≡ true
unfolding may_enter
document_frontmatter marks none = ap (λ ms. may_enter ms n.Frontmatter) none

pub document_paragraph : (marks : List Mark) → marks ≡ [] → may_enter marks n.Paragraph ≡ true
unfolding may_enter
document_paragraph marks none = ap (λ ms. may_enter ms n.Paragraph) none

pub document_lines : (marks : List Mark) → marks ≡ [] → holds_lines marks ≡ true
unfolding may_enter holds_lines
document_lines marks none = ap holds_lines none

pub document_blocks : (marks : List Mark) → marks ≡ [] → holds_blocks marks ≡ true
unfolding may_enter holds_blocks
document_blocks marks none = ap holds_blocks none
