-- One event after another: a printer that stands before an event stands after it, and the page will be the same.
use Rattle.std.proofs.Common.{◌≡◌, ℕ, ◌-◌, Bool, true, false, ◌||◌, if◌then◌else◌, List, [], ◌∷◌, ◌++◌, refl, sym, ap, ◌∙◌, subst, append_assoc, reverse, drop, length, map, arith}
use Rattle.compile_html.proofs.Prelude.{after_spelled, AreNodes, AreOpen, Around, block_pieces, children_pieces, closing, Cons, container_names, counts}
use Rattle.compile_html.proofs.Prelude.{Document, drop-append_seam, Event, events_of, first_name, first_pieces, first_sound, fold, Frame, frame_pieces, GoesOn}
use Rattle.compile_html.proofs.Prelude.{has_begun, HasChildren, HasExit, Holder, holder_of, holder_view, in_bytes, is_document, is_leaf, is_listed}
use Rattle.compile_html.proofs.Prelude.{KeepsEnding, kind_of, layout_after, LayoutState, left_events, left_lists, left_pieces, length-append, Level, level_of}
use Rattle.compile_html.proofs.Prelude.{level_passed, LineEnding, lists_before, loose_lists, Meaning, Name, Names, new_frame, Nil, Node, node_lists, Nodes}
use Rattle.compile_html.proofs.Prelude.{one, Opened, opened, opened_of, opening, page_after, page_view, passed, passed_events, passes, Piece, place_of}
use Rattle.compile_html.proofs.Prelude.{Printer, Prints, same_name, sibling_of, spelled_by, start_of, Vec, with_siblings, within}
use Rattle.std.proofs.lemmas.List.{map-append}
use Rattle.std.proofs.lemmas.List.Sums.{fold-append}
use Rattle.engine_events.specs.declared.event.Kind.TheVariants.{Enter, Exit}
use Rattle.definition_page.specs.BlockPieces.{ends_plainly, last_visible}
use Rattle.definition_page.specs.Page as page
use Rattle.html_bytes.specs.Pieces.{piece_bytes}
use Rattle.compile_raw.proofs.Sound.{inner_sound}
use Rattle.compile_blocks.specs.declared.printer.LeafPrinter.{LeafPrinter}
use Rattle.event_grammar.specs.Trees.{node_events}
use Rattle.compile_levels.specs.Levels.{new_level, begun_at}
use Rattle.event_meaning.specs.Left.{visible_of}
use Rattle.event_meaning.proofs.Steps.{ends}
use Rattle.compile_html.specs.Going.{StandsIn}
use Rattle.compile_html.specs.Opened.{outside}
use Rattle.compile_html.proofs.Frames.{begun, begins_is, content_begins, no_lists, level_after, exit_spelled, children_spelled, events_spelled, lists_spelled}
use Rattle.compile_html.proofs.Frames.{left_spelled, left_opened, holder_back, holder_document}

-- ---- without a printer

pub no_false : (A : Type 0) → (let b : Bool = true in b ≡ false) → A
no_false A h = absurd (cc)

both_ways : (A : Type 0) (b : Bool) → b ≡ false → b ≡ true → A
both_ways A true e h = no_false A e
both_ways A false e h = no_false A (sym h)

first_is : (x y : Event) (xs ys : List Event) → x ∷ xs ≡ y ∷ ys → x ≡ y
first_is x y xs ys e = cc

rest_is : (x y : Event) (xs ys : List Event) → x ∷ xs ≡ y ∷ ys → xs ≡ ys
rest_is x y xs ys e = cc

no_first : (A : Type 0) (x : Event) (xs : List Event) → x ∷ xs ≡ [] → A
no_first A x xs e = absurd (cc)

not_both : (A : Type 0) (x y : Event) → x ≡ y → x.kind ≡ Enter → y.kind ≡ Exit → A
not_both A x y e h k = let both : Enter ≡ Exit = sym h ∙ ap (λ (z : Event). z.kind) e ∙ k in absurd (cc)

or_parts : (a b : Bool) → (a || b) ≡ false → (a ≡ false) × (b ≡ false)
or_parts true b h = absurd (cc)
or_parts false b h = (refl, h)

nothing_both : (a b : List Bool) → a ++ b ≡ [] → (a ≡ []) × (b ≡ [])
nothing_both [] b h = (refl, h)
nothing_both (x ∷ xs) b h = absurd (cc)

if_no : {X : Type 0} (b : Bool) (x y : X) → b ≡ false → (if b then x else y) ≡ y
if_no true x y h = absurd (cc)
if_no false x y h = refl

no_document : (top begun : Bool) → (top ≡ true → begun ≡ true) → begun ≡ false → top ≡ false
no_document true begun h e = both_ways _ begun e (h refl)
no_document false begun h e = refl

-- the events that are left within a node, and after it
pub after_enter : (event : Event) (after : List Event) (f : Frame) (kids ns : Nodes) (exit : Event) (fs : List Frame)
    → event ∷ after ≡ left_events (with_siblings f (Cons (Around event kids exit) ns) ∷ fs)
    → after ≡ events_of kids ++ exit ∷ left_events (with_siblings f ns ∷ fs)
after_enter event after f kids ns exit fs e =
    let split : ((events_of kids ++ exit ∷ []) ++ events_of ns) ++ (f.exit ++ left_events fs) ≡ events_of kids ++ exit ∷ (events_of ns ++ (f.exit ++ left_events fs))
    = simp append_assoc in
    rest_is event event after (((events_of kids ++ exit ∷ []) ++ events_of ns) ++ (f.exit ++ left_events fs)) e ∙ split

module _ (names : Names) (bytes : List ℕ) (m : Meaning) where
  pub laid_by : (ending : LineEnding) (old new : LayoutState) (ps qs : List Piece) → new ≡ layout_after m.compile ending old (in_bytes ps)
      → layout_after m.compile ending new (in_bytes qs) ≡ layout_after m.compile ending old (in_bytes (ps ++ qs))
  laid_by ending old new ps qs e =
      ap (λ (l : LayoutState). layout_after m.compile ending l (in_bytes qs)) e
      ∙ sym (fold-append _ old (in_bytes ps) (in_bytes qs))
      ∙ ap (layout_after m.compile ending old) (sym (map-append piece_bytes ps qs))

  -- without events nothing is left
  nothing_in : (f : Frame) (fs : List Frame) (ns : Nodes) → f.siblings ≡ ns → AreOpen bytes (f ∷ fs) → [] ≡ left_events (f ∷ fs)
      → left_pieces names bytes m (f ∷ fs) ≡ []
  nothing_in f fs (Cons (Around enter kids exit) ns) n x e =
      let some : [] ≡ enter ∷ (((events_of kids ++ exit ∷ []) ++ events_of ns) ++ (f.exit ++ left_events fs))
      = e ∙ ap (λ (xs : Nodes). events_of xs ++ (f.exit ++ left_events fs)) n in
      no_first _ enter (((events_of kids ++ exit ∷ []) ++ events_of ns) ++ (f.exit ++ left_events fs)) (sym some)
  nothing_in f [] Nil n x e =
      ap (λ (g : Frame). left_pieces names bytes m (g ∷ [])) (ap (with_siblings f) n) ∙ ends names bytes m f [] ∙ ap (λ (h : Holder). closing h f.plain ++ []) x.0.0
  nothing_in f (g ∷ fs) Nil n x e =
      let some : [] ≡ x.0.0 ∷ left_events (g ∷ fs) = e ∙ ap (λ (xs : Nodes). events_of xs ++ (f.exit ++ left_events (g ∷ fs))) n
      ∙ ap (λ (es : List Event). es ++ left_events (g ∷ fs)) x.0.1 in
      no_first _ x.0.0 (left_events (g ∷ fs)) (sym some)

  nothing_after : (fs : List Frame) → AreOpen bytes fs → [] ≡ left_events fs → left_pieces names bytes m fs ≡ []
  nothing_after [] x e = refl
  nothing_after (f ∷ fs) x e = nothing_in f fs f.siblings refl x e

module _ (names : Names) (bytes : List ℕ) (m : Meaning) {A : Type 0} where
  -- ---- the page

  -- what was printed is what is no longer left
  pub printed : (old new : Printer A) (ps : List Piece) (fs gs : List Frame) → KeepsEnding old.leaves.page new.leaves.page → Prints m.compile old new ps
      → left_pieces names bytes m fs ≡ ps ++ left_pieces names bytes m gs → page_after names bytes m new gs ≡ page_after names bytes m old fs
  printed old new ps fs gs keeps laid left =
      ap (λ (ending : LineEnding). layout_after m.compile ending (page_view new.leaves.page) (in_bytes (left_pieces names bytes m gs))) keeps
      ∙ laid_by names bytes m old.leaves.page.default_ending (page_view old.leaves.page) (page_view new.leaves.page) ps (left_pieces names bytes m gs) laid
      ∙ ap (λ (qs : List Piece). layout_after m.compile old.leaves.page.default_ending (page_view old.leaves.page) (in_bytes qs)) (sym left)

  -- ---- before an event

  -- the innermost frame, before an event that is entered
  pub record Entering (events : List Event) (whole : LayoutState) (p : Printer A) (event : Event) (after : List Event) : Type 0 where
    pub f : Frame
    pub fs : List Frame
    pub kids : Nodes
    pub exit : Event
    pub ns : Nodes
    pub front : List Event
    pub split : events ≡ front ++ event ∷ after
    pub stands : StandsIn names bytes m p (event ∷ after) (with_siblings f (Cons (Around event kids exit) ns) ∷ fs)
    pub prints : page_after names bytes m p (with_siblings f (Cons (Around event kids exit) ns) ∷ fs) ≡ whole

  module _ (events : List Event) (whole : LayoutState) (p : Printer A) (event : Event) (after : List Event) where
    no_exit : (T : Type 0) (h : Holder) (exits : List Event) (fs : List Frame) → event.kind ≡ Enter → HasExit fs h exits → event ∷ after ≡ exits ++ left_events fs → T
    no_exit T h exits [] k x e = let none : event ∷ after ≡ [] = e ∙ ap (λ (es : List Event). es ++ []) x.1 in no_first _ event after none
    no_exit T h exits (g ∷ fs) k (exit, x, l) e =
        let same : event ∷ after ≡ exit ∷ left_events (g ∷ fs) = e ∙ ap (λ (es : List Event). es ++ left_events (g ∷ fs)) x in not_both T event exit (first_is event exit after (left_events (g ∷ fs)) same) k l

    entering_by : (f : Frame) (fs : List Frame) (ns : Nodes) (front : List Event) → f.siblings ≡ ns → event.kind ≡ Enter
        → events ≡ front ++ event ∷ after → StandsIn names bytes m p (event ∷ after) (f ∷ fs) → page_after names bytes m p (f ∷ fs) ≡ whole
        → Entering events whole p event after
    entering_by f fs Nil front e k split s prints =
        no_exit _ f.holder f.exit fs k s.open_.0 (s.events ∙ ap (λ (ns : Nodes). events_of ns ++ (f.exit ++ left_events fs)) e)
    entering_by f fs (Cons (Around enter kids exit) ns) front e k split s prints =
        let others : event ∷ after ≡ enter ∷ (((events_of kids ++ exit ∷ []) ++ events_of ns) ++ (f.exit ++ left_events fs))
        = s.events ∙ ap (λ (xs : Nodes). events_of xs ++ (f.exit ++ left_events fs)) e in
        let same : enter ≡ event = sym (first_is event enter after (((events_of kids ++ exit ∷ []) ++ events_of ns) ++ (f.exit ++ left_events fs)) others) in
        let frame : f ≡ with_siblings f (Cons (Around event kids exit) ns)
        = ap (with_siblings f) (e ∙ ap (λ (x : Event). Cons (Around x kids exit) ns) same) in
        let P : Frame → Type 0 = λ g. StandsIn names bytes m p (event ∷ after) (g ∷ fs) in
        record {
          f = f;
          fs = fs;
          kids = kids;
          exit = exit;
          ns = ns;
          front = front;
          split = split;
          stands = subst P frame s;
          prints = ap (λ (g : Frame). page_after names bytes m p (g ∷ fs)) (sym frame) ∙ prints;
        }

    entering_in : (fs : List Frame) (front : List Event) → event.kind ≡ Enter → events ≡ front ++ event ∷ after
        → StandsIn names bytes m p (event ∷ after) fs → page_after names bytes m p fs ≡ whole → Entering events whole p event after
    entering_in [] front k split s prints = no_first _ event after s.events
    entering_in (f ∷ fs) front k split s prints = entering_by f fs f.siblings front refl k split s prints

    pub entering : event.kind ≡ Enter → GoesOn names bytes m events whole p (event ∷ after) → Entering events whole p event after
    entering k g = entering_in g.frames g.front k g.split g.stands g.prints

  -- ---- steps

  module _ {events : List Event} {whole : LayoutState} {old : Printer A} {event : Event} {after : List Event} (e : Entering events whole old event after) where
    abbrev node : Node
    node = Around event e.kids e.exit

    -- the level of the frame
    level_is : old.level ≡ level_of e.f
    level_is = ap (λ (o : Opened). o.level) e.stands.levels

    -- the events after a node
    pub split_after : (rest : List Event) → rest ≡ left_events (with_siblings e.f e.ns ∷ e.fs) → events ≡ (e.front ++ node_events node) ++ rest
    split_after rest r =
        e.split
        ∙ ap (λ (es : List Event). e.front ++ es) (e.stands.events ∙ passed_events e.f node e.ns e.fs)
        ∙ ap (λ (es : List Event). e.front ++ (node_events node ++ es)) (sym r)
        ∙ sym (append_assoc e.front (node_events node) rest)

    -- the content begins here, or has begun
    pub content_step : (new : Printer A) → has_begun e.f event.name ≡ true
        → opened_of new ≡ opened (begun_at old.level event.name) (opened_of old).outer → new.loose ≡ old.loose → new.leaves ≡ old.leaves
        → GoesOn names bytes m events whole new (event ∷ after)
    content_step new h o l v =
        let f = e.f in
        let c = e.stands.open_.1 in
        let frame : Bool → Frame = λ b. with_siblings (record f { begun = b }) (Cons node e.ns) in
        let top = is_document f.holder in
        let pieces : page.Blocks → List Piece = λ bs. (children_pieces m (place_of f) (sibling_of f.silent) bs
        ++ closing f.holder (ends_plainly f.tight (last_visible (visible_of f.plain) bs))) ++ left_pieces names bytes m e.fs in
        let left : left_pieces names bytes m (with_siblings f (Cons node e.ns) ∷ e.fs) ≡ left_pieces names bytes m (with_siblings (begun f) (Cons node e.ns) ∷ e.fs)
        = ap pieces (content_begins names bytes (first_name f.holder) node e.ns top f.begun h) in
        record {
          frames = with_siblings (begun f) (Cons node e.ns) ∷ e.fs;
          front = e.front;
          split = e.split;
          stands = record {
            open_ = (
              e.stands.open_.0,
              record { sound = c.sound; lists = c.lists; numbers = c.numbers; before = λ x. no_false _ x; document = λ x. refl },
              e.stands.open_.2,
            );
            levels = o
                ∙ ap (λ (x : Opened). opened (begun_at x.level event.name) x.outer) e.stands.levels
                ∙ ap (λ (b : Bool). opened (level_of (record f { begun = b })) (map level_of e.fs)) (sym (begins_is f event.name) ∙ h);
            events = e.stands.events;
            loose = ap (λ (x : Vec Bool A). reverse x.items) l ∙ e.stands.loose;
          };
          prints = ap (λ (x : LeafPrinter A). layout_after m.compile x.page.default_ending (page_view x.page)
              (in_bytes (left_pieces names bytes m (with_siblings (begun f) (Cons node e.ns) ∷ e.fs)))) v
              ∙ ap (λ (ps : List Piece). layout_after m.compile old.leaves.page.default_ending (page_view old.leaves.page) (in_bytes ps)) (sym left)
              ∙ e.prints;
        }

    -- an event before the content is passed
    pub pass_step : (new : Printer A) (rest : List Event) → has_begun e.f event.name ≡ false → rest ≡ left_events (with_siblings e.f e.ns ∷ e.fs)
        → opened_of new ≡ opened (begun_at old.level event.name) (opened_of old).outer → new.loose ≡ old.loose → new.leaves ≡ old.leaves
        → GoesOn names bytes m events whole new rest
    pass_step new rest h r o l v =
        let f = e.f in
        let c = e.stands.open_.1 in
        let none = or_parts f.begun (same_name event.name (first_name f.holder)) h in
        let lists = nothing_both (node_lists bytes node) (lists_before bytes (first_name f.holder) e.ns)
        (sym (if_no (same_name event.name (first_name f.holder)) [] (node_lists bytes node ++ lists_before bytes (first_name f.holder) e.ns) none.1)
        ∙ c.before none.0) in
        let top : is_document f.holder ≡ false = no_document (is_document f.holder) f.begun c.document none.0 in
        let uncounted : counts f event.name ≡ false = ap (λ (t : Bool). t || has_begun f event.name) top ∙ h in
        let left : left_pieces names bytes m (with_siblings f (Cons node e.ns) ∷ e.fs) ≡ left_pieces names bytes m (passed f event.name e.ns ∷ e.fs)
        = passes names bytes m f event e.exit e.kids e.ns e.fs (λ yes. both_ways _ (counts f event.name) uncounted yes) in
        record {
          frames = passed f event.name e.ns ∷ e.fs;
          front = e.front ++ node_events node;
          split = split_after rest r;
          stands = record {
            open_ = (
              e.stands.open_.0,
              record {
                sound = (first_sound bytes node e.ns c.sound).1;
                lists = c.lists.1;
                numbers = c.numbers.1;
                before = λ x. lists.1;
                document = λ x. both_ways _ (is_document f.holder) top x;
              },
              e.stands.open_.2,
            );
            levels = o
                ∙ ap (λ (x : Opened). opened (begun_at x.level event.name) x.outer) e.stands.levels
                ∙ ap (λ (b : Bool). opened (level_of (record f { begun = b })) (map level_of e.fs)) (sym (begins_is f event.name));
            events = r;
            loose = ap (λ (x : Vec Bool A). reverse x.items) l ∙ e.stands.loose
                ∙ ap (λ (ls : List Bool). (ls ++ loose_lists bytes e.ns) ++ left_lists bytes e.fs) lists.0;
          };
          prints = ap (λ (x : LeafPrinter A). layout_after m.compile x.page.default_ending (page_view x.page)
              (in_bytes (left_pieces names bytes m (passed f event.name e.ns ∷ e.fs)))) v
              ∙ ap (λ (ps : List Piece). layout_after m.compile old.leaves.page.default_ending (page_view old.leaves.page) (in_bytes ps)) (sym left)
              ∙ e.prints;
        }

    -- the content has begun: the frame is one of that kind
    module _ (b : old.level.begun ≡ true) where
      frame_begun : e.f.begun ≡ true
      frame_begun = ap (λ (l : Level). l.begun) (sym level_is) ∙ b

      frame_is : e.f ≡ begun e.f
      frame_is = ap (λ (t : Bool). record e.f { begun = t }) frame_begun

      abbrev spells : page.Blocks
      spells = spelled_by names bytes (is_document e.f.holder) event e.kids e.exit

      abbrev frame_after : Frame
      frame_after = after_spelled (begun e.f) spells e.ns

      begun_children : HasChildren bytes (with_siblings e.f (Cons node e.ns)) → HasChildren bytes (with_siblings (begun e.f) (Cons node e.ns))
      begun_children c = record { sound = c.sound; lists = c.lists; numbers = c.numbers; before = λ x. no_false _ x; document = λ x. refl }

      after_is_open : AreOpen bytes (frame_after ∷ e.fs)
      after_is_open = (
        exit_spelled (begun e.f) e.ns spells e.fs e.stands.open_.0,
        children_spelled (begun e.f) e.ns bytes spells node (begun_children e.stands.open_.1),
        e.stands.open_.2,
      )

      level_passed_is : level_passed old.level (kind_of event.name) ≡ level_of frame_after
      level_passed_is =
          ap (λ (l : Level). level_passed l (kind_of event.name)) (level_is ∙ ap level_of frame_is)
          ∙ sym (level_after names bytes e.f event e.exit e.kids e.ns)

      outer_is : (opened_of old).outer ≡ map level_of e.fs
      outer_is = ap (λ (o : Opened). o.outer) e.stands.levels

      -- what is left before the node
      left_before : left_pieces names bytes m (with_siblings e.f (Cons node e.ns) ∷ e.fs) ≡ left_pieces names bytes m (with_siblings (begun e.f) (Cons node e.ns) ∷ e.fs)
      left_before = ap (λ (f : Frame). left_pieces names bytes m (with_siblings f (Cons node e.ns) ∷ e.fs)) frame_is

      -- a leaf is printed as a whole
      pub leaf_step : (new : Printer A) (rest : List Event) → is_leaf (kind_of event.name) ≡ true → rest ≡ left_events (with_siblings e.f e.ns ∷ e.fs)
          → opened_of new ≡ opened (level_passed old.level (kind_of event.name)) (opened_of old).outer → new.loose ≡ old.loose
          → KeepsEnding old.leaves.page new.leaves.page
          → Prints m.compile old new (first_pieces m (record { top = is_document e.f.holder; tight = e.f.tight; silent = e.f.silent }) spells)
          → GoesOn names bytes m events whole new rest
      leaf_step new rest leaf r o l keeps laid =
          let c = e.stands.open_.1 in
          let none : node_lists bytes node ≡ [] = no_lists bytes event e.exit e.kids leaf c.lists.0 in
          record {
            frames = frame_after ∷ e.fs;
            front = e.front ++ node_events node;
            split = split_after rest r;
            stands = record {
              open_ = after_is_open;
              levels = o ∙ ap (λ (x : Level). opened x (opened_of old).outer) level_passed_is ∙ ap (λ (xs : List Level). opened (level_of frame_after) xs) outer_is;
              events = r ∙ sym (events_spelled (begun e.f) e.ns spells e.fs);
              loose = ap (λ (x : Vec Bool A). reverse x.items) l ∙ e.stands.loose
                  ∙ ap (λ (ls : List Bool). (ls ++ loose_lists bytes e.ns) ++ left_lists bytes e.fs) none
                  ∙ sym (lists_spelled (begun e.f) e.ns bytes spells e.fs);
            };
            prints = printed old new _ (with_siblings e.f (Cons node e.ns) ∷ e.fs) (frame_after ∷ e.fs) keeps laid
                (left_before ∙ left_spelled names bytes m e.f event e.exit e.kids e.ns e.fs)
                ∙ e.prints;
          }

      -- a container or a list begins
      pub holder_step : (new : Printer A) (h : Holder) (tight : Bool) (b : page.Block) → spells ≡ one b
          → block_pieces m (place_of e.f) (sibling_of e.f.silent) b ≡ opening h ++ frame_pieces names bytes m (new_frame h tight e.kids e.exit)
          → is_document h ≡ false → first_name h ≡ start_of event.name → is_listed container_names event.name ≡ true
          → opened_of new ≡ within (kind_of event.name) (holder_of h) tight (opened_of old)
          → reverse new.loose.items ≡ loose_lists bytes e.kids ++ (loose_lists bytes e.ns ++ left_lists bytes e.fs)
          → KeepsEnding old.leaves.page new.leaves.page → Prints m.compile old new (opening h)
          → GoesOn names bytes m events whole new after
      holder_step new h tight b spelled opens_it top start listed o l keeps laid =
          let c = e.stands.open_.1 in
          let own = first_sound bytes node e.ns c.sound in
          let g = new_frame h tight e.kids e.exit in
          record {
            frames = g ∷ frame_after ∷ e.fs;
            front = e.front ++ event ∷ [];
            split = e.split ∙ sym (append_assoc e.front (event ∷ []) after);
            stands = record {
              open_ = (
                (e.exit, refl, own.0.is_node.1),
                record {
                  sound = inner_sound bytes node own.0;
                  lists = c.lists.0.2;
                  numbers = c.numbers.0.1;
                  before = λ x. ap (λ (s : Name). lists_before bytes s e.kids) start ∙ c.lists.0.1 listed;
                  document = λ x. both_ways _ (is_document h) top x;
                },
                after_is_open,
              );
              levels = o
                  ∙ ap (λ (xs : List Level). opened (new_level (holder_of h) tight) xs)
                  (ap (λ (x : Level). x ∷ (opened_of old).outer) level_passed_is ∙ ap (λ (xs : List Level). level_of frame_after ∷ xs) outer_is)
                  ∙ ap (λ (t : Bool). opened (record (new_level (holder_of h) tight) { begun = t }) (map level_of (frame_after ∷ e.fs))) (holder_document h ∙ top);
              events = after_enter event after e.f e.kids e.ns e.exit e.fs e.stands.events
                  ∙ ap (λ (es : List Event). events_of e.kids ++ e.exit ∷ es) (sym (events_spelled (begun e.f) e.ns spells e.fs));
              loose = l ∙ ap (λ (ls : List Bool). loose_lists bytes e.kids ++ ls) (sym (lists_spelled (begun e.f) e.ns bytes spells e.fs));
            };
            prints = printed old new (opening h) (with_siblings e.f (Cons node e.ns) ∷ e.fs) (g ∷ frame_after ∷ e.fs) keeps laid
                (left_before ∙ left_opened names bytes m e.f event e.exit e.kids e.ns e.fs h tight b spelled opens_it)
                ∙ e.prints;
          }

  -- ---- an exit

  pub record Exiting (events : List Event) (whole : LayoutState) (p : Printer A) (event : Event) (after : List Event) : Type 0 where
    pub f : Frame
    pub g : Frame
    pub fs : List Frame
    pub front : List Event
    pub split : events ≡ front ++ event ∷ after
    pub stands : StandsIn names bytes m p (event ∷ after) (with_siblings f Nil ∷ g ∷ fs)
    pub rest : after ≡ left_events (g ∷ fs)
    pub prints : page_after names bytes m p (with_siblings f Nil ∷ g ∷ fs) ≡ whole

  module _ (events : List Event) (whole : LayoutState) (p : Printer A) (event : Event) (after : List Event) where
    exiting_at : (f : Frame) (fs : List Frame) (front : List Event) → f.siblings ≡ Nil → events ≡ front ++ event ∷ after
        → StandsIn names bytes m p (event ∷ after) (f ∷ fs) → page_after names bytes m p (f ∷ fs) ≡ whole → HasExit fs f.holder f.exit
        → event ∷ after ≡ f.exit ++ left_events fs → Exiting events whole p event after
    exiting_at f [] front n split s prints x e = let none : event ∷ after ≡ [] = e ∙ ap (λ (es : List Event). es ++ []) x.1 in no_first _ event after none
    exiting_at f (g ∷ fs) front n split s prints (exit, x, l) e =
        let P : Frame → Type 0 = λ h. StandsIn names bytes m p (event ∷ after) (h ∷ g ∷ fs) in
        let same : event ∷ after ≡ exit ∷ left_events (g ∷ fs) = e ∙ ap (λ (es : List Event). es ++ left_events (g ∷ fs)) x in
        record {
          f = f;
          g = g;
          fs = fs;
          front = front;
          split = split;
          stands = subst P (ap (with_siblings f) n) s;
          rest = rest_is event exit after (left_events (g ∷ fs)) same;
          prints = ap (λ (h : Frame). page_after names bytes m p (h ∷ g ∷ fs)) (sym (ap (with_siblings f) n)) ∙ prints;
        }

    exiting_by : (f : Frame) (fs : List Frame) (ns : Nodes) (front : List Event) → f.siblings ≡ ns → event.kind ≡ Exit
        → events ≡ front ++ event ∷ after → StandsIn names bytes m p (event ∷ after) (f ∷ fs) → page_after names bytes m p (f ∷ fs) ≡ whole
        → Exiting events whole p event after
    exiting_by f fs Nil front e k split s prints =
        exiting_at f fs front e split s prints s.open_.0 (s.events ∙ ap (λ (ns : Nodes). events_of ns ++ (f.exit ++ left_events fs)) e)
    exiting_by f fs (Cons (Around enter kids exit) ns) front e k split s prints =
        let others : event ∷ after ≡ enter ∷ (((events_of kids ++ exit ∷ []) ++ events_of ns) ++ (f.exit ++ left_events fs))
        = s.events ∙ ap (λ (xs : Nodes). events_of xs ++ (f.exit ++ left_events fs)) e in
        let nodes : AreNodes (Cons (Around enter kids exit) ns) = subst AreNodes e s.open_.1.sound.nodes in
        let kind : enter.kind ≡ Enter = nodes.0.0 in
        not_both _ enter event (sym (first_is event enter after (((events_of kids ++ exit ∷ []) ++ events_of ns) ++ (f.exit ++ left_events fs)) others)) kind k

    exiting_in : (fs : List Frame) (front : List Event) → event.kind ≡ Exit → events ≡ front ++ event ∷ after
        → StandsIn names bytes m p (event ∷ after) fs → page_after names bytes m p fs ≡ whole → Exiting events whole p event after
    exiting_in [] front k split s prints = no_first _ event after s.events
    exiting_in (f ∷ fs) front k split s prints = exiting_by f fs f.siblings front refl k split s prints

    pub exiting : event.kind ≡ Exit → GoesOn names bytes m events whole p (event ∷ after) → Exiting events whole p event after
    exiting k g = exiting_in g.frames g.front k g.split g.stands g.prints

  -- the innermost container or list ends
  pub exit_step : {events : List Event} {whole : LayoutState} {old : Printer A} {event : Event} {after : List Event} (e : Exiting events whole old event after)
      (new : Printer A) → opened_of new ≡ outside (opened_of old) → new.loose ≡ old.loose → KeepsEnding old.leaves.page new.leaves.page
      → Prints m.compile old new (closing (holder_view old.level.holder) old.level.plain) → GoesOn names bytes m events whole new after
  exit_step {events = events} {old = old} {event = event} {after = after} e new o l keeps laid =
      let level : old.level ≡ level_of e.f = ap (λ (x : Opened). x.level) e.stands.levels in
      let ends_it : closing (holder_view old.level.holder) old.level.plain ≡ closing e.f.holder e.f.plain
      = ap (λ (x : Level). closing (holder_view x.holder) x.plain) level ∙ ap (λ (h : Holder). closing h e.f.plain) (holder_back e.f.holder) in
      record {
        frames = e.g ∷ e.fs;
        front = e.front ++ event ∷ [];
        split = e.split ∙ sym (append_assoc e.front (event ∷ []) after);
        stands = record {
          open_ = e.stands.open_.2;
          levels = o ∙ ap outside e.stands.levels;
          events = e.rest;
          loose = ap (λ (x : Vec Bool A). reverse x.items) l ∙ e.stands.loose;
        };
        prints = printed old new (closing (holder_view old.level.holder) old.level.plain) (with_siblings e.f Nil ∷ e.g ∷ e.fs) (e.g ∷ e.fs) keeps laid
            (ends names bytes m e.f (e.g ∷ e.fs) ∙ ap (λ (ps : List Piece). ps ++ left_pieces names bytes m (e.g ∷ e.fs)) (sym ends_it))
            ∙ e.prints;
      }

  -- ---- the first and the last

  pub at_end : {events : List Event} {whole : LayoutState} {p : Printer A} → GoesOn names bytes m events whole p [] → page_view p.leaves.page ≡ whole
  at_end {whole = whole} {p = p} g =
      ap (λ (ps : List Piece). layout_after m.compile p.leaves.page.default_ending (page_view p.leaves.page) (in_bytes ps))
      (sym (nothing_after names bytes m g.frames g.stands.open_ g.stands.events))
      ∙ g.prints
