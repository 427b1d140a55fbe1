-- Links, one after another.
use Rattle.std.proofs.Common.{◌≡◌, ◌<◌, ◌≤◌, ◌+◌, ℕ, zero, suc, List, [], ◌∷◌, ◌++◌, drop, length, get_or, Option, unwrap_or, sym, ap, ap₂, ◌∙◌, subst, append_assoc, arith}
use Rattle.std.proofs.lemmas.List.{append-nil, drop_all, drop_more, map-append}
use Rattle.std.proofs.lemmas.List.Elements.{All-append}
use Rattle.std.proofs.Math.ListN.{get_or-map}
use Rattle.std.specs.List.{All}
use Rattle.engine_events.specs.declared.event.Event.{Event}
use Rattle.definition_inline.specs.CharacterReference.{Names}
use Rattle.markdown_links.specs.Definition.{Labelled, definition_of, definitions_from}
use Rattle.markdown_links.specs.Listed.{HasLinks, HasParts, IsWithin, Listed, empty, link_at, listed, links_of, listed_at, listed_from, part, targets_of}
use Rattle.markdown_links.specs.Span.{spans_of}
use Rattle.markdown_links.specs.declared.link.Link.{Link}
use Rattle.markdown_links.specs.declared.link.Range.{Range}
use Rattle.markdown_links.specs.declared.span.Span.{Span}
use Rattle.markdown_links.proofs.Parts.{all_one}

-- what a span is listed as
abbrev shown : Span → Option ℕ → List ℕ → Listed
shown span definition destination = record {
  kind = span.kind;
  event = span.enter;
  start = span.start;
  end = span.end;
  destination = destination;
  definition = definition;
}

-- the range of a place lies in the text, and the empty one beyond the last does too
within_at : (size : ℕ) (ranges : List Range) (i : ℕ) → All (IsWithin size) ranges → IsWithin size (get_or ranges i empty)
within_at size [] i h = record { ordered = omega arith; fits = omega arith }
within_at size (r ∷ rs) zero h = h zero r (omega arith)
within_at size (r ∷ rs) (suc i) h = within_at size rs i (λ k d l. h (suc k) d (omega (arith, l)))

module _ (out : List ℕ) (ranges : List Range) (targets : List (List ℕ)) (parts : HasParts out ranges targets) where
  part_at : (i : ℕ) → part out (get_or ranges i empty) ≡ get_or targets i []
  part_at i = sym (get_or-map (part out) ranges i empty) ∙ ap (λ (xs : List (List ℕ)). get_or xs i []) parts.each

  -- one link more
  links_more : (links : List Link) (done : List Listed) (span : Span) (index place : ℕ) (definition : Option ℕ) (range : Range) (link : Link)
      → HasLinks out links done → place ≡ unwrap_or definition index → range ≡ get_or ranges place empty → link ≡ link_at span definition range
      → HasLinks out (links ++ link ∷ []) (done ++ listed_at targets index definition span ∷ [])
  links_more links done span index place definition range link h leads at is =
      let one : listed out link ≡ listed_at targets index definition span =
      ap (listed out) is
      ∙ ap (λ (it : Range). listed out (link_at span definition it)) at
      ∙ ap (λ (it : List ℕ). shown span definition it) (part_at place ∙ ap (λ (n : ℕ). get_or targets n []) leads) in
      record {
        each = map-append (listed out) links (link ∷ []) ∙ ap₂ (λ (xs : List Listed) (x : Listed). xs ++ x ∷ []) h.each one;
        within =
            All-append (λ (it : Link). IsWithin (length out) it.destination) links (link ∷ []) h.within
            (all_one (λ (it : Link). IsWithin (length out) it.destination) link
            (subst (λ (it : Link). IsWithin (length out) it.destination) (sym is)
            (subst (IsWithin (length out)) (sym at) (within_at (length out) ranges place parts.within))));
      }

-- the links before a place, which with those after it are all
abbrev pub HasFrontLinks : List ℕ → List Link → (ℕ → List Span → List Listed) → List Span → ℕ → Type 0
HasFrontLinks out links from spans i = (done : List Listed) × HasLinks out links done × (done ++ from i (drop i spans) ≡ from 0 spans)

-- all links before the end
pub all_links : (out : List ℕ) (links : List Link) (from : ℕ → List Span → List Listed) (spans : List Span) (i : ℕ) → from i [] ≡ []
    → length spans ≤ i → HasFrontLinks out links from spans i → HasLinks out links (from 0 spans)
all_links out links from spans i none end h =
    let all : h.0 ≡ from 0 spans =
    sym (append-nil h.0) ∙ ap (λ (ls : List Listed). h.0 ++ ls) (sym (ap (from i) (drop_all i spans end) ∙ none)) ∙ h.2 in
    subst (HasLinks out links) all h.1

-- the link of a span after those before it
pub front_link : (out : List ℕ) (ranges : List Range) (targets : List (List ℕ)) (bytes : List ℕ) (events : List Event) (ds : List Labelled)
    (spans : List Span) (i : ℕ) (d : Span) (links all : List Link) (definition : Option ℕ) (place : ℕ) (range : Range) (link : Link)
    → HasParts out ranges targets → i < length spans → definition ≡ definition_of bytes events ds (get_or spans i d)
    → place ≡ unwrap_or definition i → range ≡ get_or ranges place empty → link ≡ link_at (get_or spans i d) definition range
    → all ≡ links ++ link ∷ [] → HasFrontLinks out links (listed_from bytes events targets ds) spans i
    → HasFrontLinks out all (listed_from bytes events targets ds) spans (i + 1)
front_link out ranges targets bytes events ds spans i d links all definition place range link parts before leads at of is items h =
    let span = get_or spans i d in
    let one = listed_at targets i definition span in
    let rest = listed_from bytes events targets ds (i + 1) (drop (i + 1) spans) in (
      h.0 ++ one ∷ [],
      subst (λ (it : List Link). HasLinks out it (h.0 ++ one ∷ [])) (sym items)
          (links_more out ranges targets parts links h.0 span i place definition range link h.1 at of is),
      append_assoc h.0 (one ∷ []) rest
          ∙ ap (λ (it : Option ℕ). h.0 ++ listed_at targets i it span ∷ rest) leads
          ∙ ap (λ (ls : List Listed). h.0 ++ ls) (sym (ap (listed_from bytes events targets ds i) (drop_more spans i d before)))
          ∙ h.2,
    )

-- the links of a list of events, where its spans were found once and read three times
pub links_are : (names : Names) (bytes : List ℕ) (events : List Event) (out : List ℕ) (links : List Link) (one two three : List Span)
    → one ≡ spans_of events → two ≡ spans_of events → three ≡ spans_of events
    → HasLinks out links (listed_from bytes events (targets_of names bytes events two) (definitions_from bytes events 0 one) 0 three)
    → HasLinks out links (links_of names bytes events)
links_are names bytes events out links one two three a b c h =
    let spans = spans_of events in
    let first = subst (λ (it : List Span). HasLinks out links
    (listed_from bytes events (targets_of names bytes events two) (definitions_from bytes events 0 it) 0 three)) a h in
    let second = subst (λ (it : List Span). HasLinks out links
    (listed_from bytes events (targets_of names bytes events it) (definitions_from bytes events 0 spans) 0 three)) b first in
    subst (λ (it : List Span). HasLinks out links
    (listed_from bytes events (targets_of names bytes events spans) (definitions_from bytes events 0 spans) 0 it)) c second
