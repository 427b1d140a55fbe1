-- Headings, one after another.
use Rattle.std.proofs.Common.{◌≡◌, ◌<◌, ◌≤◌, ◌+◌, ◌-◌, ℕ, Bool, true, false, if◌then◌else◌, List, [], ◌∷◌, ◌++◌, drop, take}
use Rattle.std.proofs.Common.{length, get_or, refl, sym, ap, ◌∙◌, subst, append_assoc, arith}
use Rattle.std.proofs.lemmas.List.{append-nil, drop_all, drop_more, length-drop, take_all}
use Rattle.std.proofs.lemmas.Bool.{cond-false, cond-true}
use Rattle.engine_events.specs.Names.{same_name}
use Rattle.engine_events.specs.declared.event.Event.{Event}
use Rattle.engine_events.specs.declared.event.Kind.{Kind}
use Rattle.engine_events.specs.declared.event.Kind.TheVariants.{Enter, Exit}
use Rattle.engine_events.specs.declared.event.Name.{Name}
use Rattle.engine_events.specs.declared.event.Name.TheVariants as n
use Rattle.engine_events.specs.declared.place.Point.{Point}
use Rattle.definition_inline.specs.CharacterReference.{Names}
use Rattle.event_grammar.specs.Trees.{Nodes, Around, events_of, tree}
use Rattle.compile_levels.specs.Siblings.{inside, size_inside}
use Rattle.compile_levels.proofs.SiblingLaw.{inside_law, size_law}
use Rattle.compile_html.proofs.Tree.{tree_is}
use Rattle.compile_raw.specs.Sound.{AreSound}
use Rattle.compile_raw.proofs.Sound.{inner_sound}
use Rattle.event_meaning.specs.Blocks.{heading_atx_of, heading_setext_of}
use Rattle.event_meaning.specs.Texts.{text_within}
use Rattle.markdown_outline.specs.Listed.{BeginsSound, HasHeadings, IsListed, Listed, begins_heading, headings_from, listed_at, outline_of}
use Rattle.markdown_outline.specs.Rank.{page_heading, said_by}
use Rattle.html_heading_text.specs.HeadingLines.{heading_lines}
use Rattle.markdown_outline.specs.declared.heading.Heading.{Heading}
use Rattle.markdown_outline.proofs.Begun.{AllBegin}
use Rattle.markdown_outline.proofs.StoredParts.{headings_more}

-- all events after an index
pub rest_is : (events : List Event) (i : ℕ) → take (length events - (i + 1)) (drop (i + 1) events) ≡ drop (i + 1) events
rest_is events i = take_all (length events - (i + 1)) (drop (i + 1) events) (let size = length-drop (i + 1) events in omega (arith, size))

-- a heading begins with an enter
pub heading_enters : (kind : Kind) (name : Name) → begins_heading kind name ≡ true → kind ≡ Enter
heading_enters Enter name h = refl
heading_enters Exit name h = absurd (cc)

-- what a heading says, of whatever kind it is
pub said_is : (names : Names) (bytes : List ℕ) (name : Name) (kids : Nodes)
    → said_by (page_heading names bytes name kids) ≡ heading_lines (text_within names bytes false kids)
said_is names bytes name kids = by_case (same_name name n.HeadingAtx)
  where
    by_case : (b : Bool) → said_by (if b then heading_atx_of names bytes kids else heading_setext_of names bytes kids)
        ≡ heading_lines (text_within names bytes false kids)
    by_case true = refl
    by_case false = refl

-- a heading as it is listed
abbrev made : ℕ → ℕ → Point → Point → List ℕ → List ℕ → Listed
made rank event start end text slug = record { rank = rank; event = event; start = start; end = end; text = text; slug = slug }

pub made_same : (event : ℕ) (r q : ℕ) (p o e f : Point) (t u s v : List ℕ) → r ≡ q → p ≡ o → e ≡ f → t ≡ u → s ≡ v
    → made r event p e t s ≡ made q event o f u v
made_same event r q p o e f t u s v h l i j k =
    ap (λ (x : ℕ). made x event p e t s) h
    ∙ ap (λ (x : Point). made q event x e t s) l
    ∙ ap (λ (x : Point). made q event o x t s) i
    ∙ ap (λ (x : List ℕ). made q event o f x s) j
    ∙ ap (λ (x : List ℕ). made q event o f u x) k

-- ---- a node that an event begins

module _ (bytes : List ℕ) (enter : Event) (after : List Event) (b : BeginsSound bytes enter after) where
  -- what is inside of it
  pub events_inside : inside after ≡ events_of b.kids
  events_inside = ap inside b.events ∙ inside_law b.kids b.sound.is_node.3 b.exit b.others b.sound.is_node.1

  pub tree_inside : tree (inside after) ≡ b.kids
  tree_inside = ap tree events_inside ∙ tree_is b.kids b.sound.is_node.3

  pub size_is : length (events_of b.kids) ≡ size_inside 0 after
  size_is = sym (ap (size_inside 0) b.events ∙ size_law b.kids b.sound.is_node.3 b.exit b.others b.sound.is_node.1)

  pub kids_are : AreSound bytes b.kids
  kids_are = inner_sound bytes (Around enter b.kids b.exit) b.sound

  -- what a heading says that it is
  pub text_is : (names : Names) → heading_lines (text_within names bytes false b.kids) ≡ said_by (page_heading names bytes enter.name (tree (inside after)))
  text_is names =
      sym (said_is names bytes enter.name b.kids) ∙ ap (λ (ns : Nodes). said_by (page_heading names bytes enter.name ns)) (sym tree_inside)

module _ (names : Names) (bytes : List ℕ) (events : List Event) where
  -- the headings before an index, and those after it, are all; the slugs of those before are taken
  pub record HasFront (slugs : List (List ℕ)) (texts : List ℕ) (headings : List Heading) (i : ℕ) : Type 0 where
    pub done : List Listed
    pub has : HasHeadings texts headings done
    pub all : done ++ headings_from names bytes slugs i (drop i events) ≡ outline_of names bytes events
    pub begun : AllBegin bytes (drop i events)

  pub no_front : (slugs : List (List ℕ)) (texts : List ℕ) (headings : List Heading) → slugs ≡ [] → texts ≡ []
      → headings ≡ [] → AllBegin bytes events → HasFront slugs texts headings 0
  no_front slugs texts headings h empty none b =
      let nothing : HasHeadings texts [] [] =
      record {
        whole = empty;
        each = refl;
        texts = λ k d l. absurd (omega (arith, l));
        slugs = λ k d l. absurd (omega (arith, l));
        utf8 = λ k d l. absurd (omega (arith, l));
      } in
      record {
        done = [];
        has = subst (λ (hs : List Heading). HasHeadings texts hs []) (sym none) nothing;
        all = ap (λ (taken : List (List ℕ)). headings_from names bytes taken 0 (drop 0 events)) h;
        begun = b;
      }

  module _ (slugs : List (List ℕ)) (texts : List ℕ) (headings : List Heading) (i : ℕ) (d : Event) (before : i < length events)
      (h : HasFront slugs texts headings i) where
    abbrev left : List Event
    left = drop (i + 1) events

    next : drop i events ≡ get_or events i d ∷ left
    next = drop_more events i d before

    -- the event at the index begins no heading
    pub front_same : begins_heading (get_or events i d).kind (get_or events i d).name ≡ false → HasFront slugs texts headings (i + 1)
    front_same other =
        let e = get_or events i d in
        let one = listed_at names bytes slugs i e left in
        let others = headings_from names bytes slugs (i + 1) left in
        let more = one ∷ headings_from names bytes (slugs ++ one.slug ∷ []) (i + 1) left in
        record {
          done = h.done;
          has = h.has;
          all =
              ap (λ (ls : List Listed). h.done ++ ls)
              (sym (ap (headings_from names bytes slugs i) next ∙ cond-false (begins_heading e.kind e.name) more others other))
              ∙ h.all;
          begun = (subst (AllBegin bytes) next h.begun).1;
        }

    module _ (after : List Event) (rest : after ≡ left) where
      -- what begins with it
      pub front_begun : begins_heading (get_or events i d).kind (get_or events i d).name ≡ true → BeginsSound bytes (get_or events i d) after
      front_begun is =
          let e = get_or events i d in
          subst (BeginsSound bytes e) (sym rest) ((subst (AllBegin bytes) next h.begun).0 (heading_enters e.kind e.name is))

      -- it begins a heading, which is listed
      pub front_more : (new_slugs : List (List ℕ)) (new_texts : List ℕ) (all : List Heading) (heading : Heading)
          → begins_heading (get_or events i d).kind (get_or events i d).name ≡ true
          → new_slugs ≡ slugs ++ (listed_at names bytes slugs i (get_or events i d) after).slug ∷ []
          → IsListed texts new_texts heading (listed_at names bytes slugs i (get_or events i d) after)
          → all ≡ headings ++ heading ∷ [] → HasFront new_slugs new_texts all (i + 1)
      front_more new_slugs new_texts all heading is taken listed items =
          let e = get_or events i d in
          let one = listed_at names bytes slugs i e left in
          let others = headings_from names bytes slugs (i + 1) left in
          let more = headings_from names bytes (slugs ++ one.slug ∷ []) (i + 1) left in
          record {
            done = h.done ++ one ∷ [];
            has =
                subst (λ (hs : List Heading). HasHeadings new_texts hs (h.done ++ one ∷ [])) (sym items)
                (headings_more texts new_texts headings h.done heading one h.has
                (subst (λ (es : List Event). IsListed texts new_texts heading (listed_at names bytes slugs i e es)) rest listed));
            all =
                ap (λ (slugs : List (List ℕ)). (h.done ++ one ∷ []) ++ headings_from names bytes slugs (i + 1) left)
                (taken ∙ ap (λ (es : List Event). slugs ++ (listed_at names bytes slugs i e es).slug ∷ []) rest)
                ∙ append_assoc h.done (one ∷ []) more
                ∙ ap (λ (ls : List Listed). h.done ++ ls)
                (sym (ap (headings_from names bytes slugs i) next ∙ cond-true (begins_heading e.kind e.name) (one ∷ more) others is))
                ∙ h.all;
            begun = (subst (AllBegin bytes) next h.begun).1;
          }

  -- no event is left
  pub all_headings : (slugs : List (List ℕ)) (texts : List ℕ) (headings : List Heading) (i : ℕ) → length events ≤ i
      → HasFront slugs texts headings i → HasHeadings texts headings (outline_of names bytes events)
  all_headings slugs texts headings i end h =
      let all : h.done ≡ outline_of names bytes events =
      sym (append-nil h.done) ∙ ap (λ (ls : List Listed). h.done ++ ls) (sym (ap (headings_from names bytes slugs i) (drop_all i events end))) ∙ h.all in
      subst (HasHeadings texts headings) all h.has
