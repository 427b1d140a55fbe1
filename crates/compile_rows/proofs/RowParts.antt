-- The rows of one event.
use Rattle.std.proofs.Common.{◌≡◌, ℕ, ◌==◌, Bool, true, false, ◌&&◌, ◌||◌, not, if◌then◌else◌, List, [], ◌∷◌, drop, Option, None, Some, refl, sym, ap, ◌∙◌}
use denote.Enum.Bare.{sameb}
use Rattle.compile_rows.proofs.Prelude.{alone_rows, CallRow, data_rows, enter_in, enter_rows, EnterLinked, Event, exit_in, exit_rows, has, Image, InlineLeaf}
use Rattle.compile_rows.proofs.Prelude.{InlineRow, is_listed, leaf_rows, Leave, Link, LinkedKind, LinkTexts, media_names, Mode, Name, Names, Part, part_rows}
use Rattle.compile_rows.proofs.Prelude.{Place, raw_after, same_name, sequence_of, SpanKind, Spelled, spelled_by, Target, target_by, TaskCheck, text_first}
use Rattle.compile_rows.proofs.Prelude.{valid, without_padding}
use Rattle.engine_events.specs.declared.event.Name.TheVariants as n
use Rattle.compile_rows.specs.Places.{in_text, is_in_text}
use Rattle.compile_rows.specs.Rows.{raw_leaf}
use Rattle.compile_strings.specs.Targets.{label_by}
use Rattle.compile_strings.specs.Spelled.{spelled, nowhere}
use Rattle.compile_rows.specs.contracts.rows.Mode.{the_type}
use Rattle.compile_rows.specs.declared.rows.Mode.TheVariants.{Text, Before, Behind}
use Rattle.compile_rows.proofs.Ahead.{raw_of}
use Rattle.compile_rows.proofs.HtmlLoops.{zero_is, zero_not}

-- ---- the end of a span, a link or an image

leave_in : (name : Name) (m : Mode) → sameb the_type m Text ≡ false → (if same_name name n.Label then [] else Leave ∷ []) ≡ exit_in m name
leave_in name Text h = absurd (let g : true ≡ false = h in cc)
leave_in name Before h = refl
leave_in name Behind h = refl

pub leave_rows : (p : Place) (name : Name) → p.skipped ≡ 0 → sameb the_type p.mode Text ≡ false → same_name name n.Label ≡ false
    → Leave ∷ [] ≡ exit_rows p name
leave_rows p name z m l =
    ap (λ (t : Bool). if t then [] else Leave ∷ []) (sym l)
    ∙ leave_in name p.mode m
    ∙ ap (λ (t : Bool). if t then exit_in p.mode name else []) (sym (zero_is p.skipped z))

-- ---- a part

link_is : (name : Name) → same_name name n.Link ≡ true → name ≡ n.Link
link_is n.Link h = refl
link_is name h = absurd (let g : false ≡ true = h in cc)

image_is : (name : Name) → same_name name n.Image ≡ true → name ≡ n.Image
image_is n.Image h = refl
image_is name h = absurd (let g : false ≡ true = h in cc)

call_is : (name : Name) → same_name name n.GfmFootnoteCall ≡ true → name ≡ n.GfmFootnoteCall
call_is n.GfmFootnoteCall h = refl
call_is name h = absurd (let g : false ≡ true = h in cc)

data_is : (name : Name) → same_name name n.Data ≡ true → name ≡ n.Data
data_is n.Data h = refl
data_is name h = absurd (let g : false ≡ true = h in cc)

module _ (names : Names) (bytes : List ℕ) (leads : Target → LinkTexts) (in_link : Bool) (events : List Event) where
  data_by : (b : Bool) (m : Mode) (links : ℕ) → (b && in_text m) ≡ true
      → data_rows (valid (text_first bytes events)) ≡ (if b then enter_in names bytes leads in_link m n.Data links events else [])
  data_by true Text links h = refl
  data_by true Before links h = absurd (let g : false ≡ true = h in cc)
  data_by true Behind links h = absurd (let g : false ≡ true = h in cc)
  data_by false m links h = absurd (let g : false ≡ true = h in cc)

  -- data is a text
  pub data_row : (p : Place) (name : Name) (text : List ℕ) → is_in_text p ≡ true → same_name name n.Data ≡ true → text ≡ valid (text_first bytes events)
      → data_rows text ≡ enter_rows names bytes leads in_link p name events
  data_row p name text b h t =
      ap data_rows t
      ∙ data_by (p.skipped == 0) p.mode p.links b
      ∙ ap (λ (z : Name). enter_rows names bytes leads in_link p z events) (sym (data_is name h))

module _ (names : Names) (bytes : List ℕ) (leads : Target → LinkTexts) (in_link : Bool) (name : Name) (links : ℕ) (events : List Event) where
  abbrev after : List Event
  after = drop 1 events

  abbrev own : Spelled
  own = spelled_by names bytes leads name after

  abbrev parts : Option SpanKind → List InlineRow
  parts found = part_rows names bytes leads in_link found name links events

  abbrev alone : Option Name → List InlineRow
  alone found = alone_rows names bytes leads in_link found name links events

  -- ---- at a place

  pub skipped_rows : (p : Place) → (p.skipped ≡ 0 → ⊥) → [] ≡ enter_rows names bytes leads in_link p name events
  skipped_rows p h =
      ap (λ (t : Bool). if t then enter_in names bytes leads in_link p.mode name p.links events else []) (sym (zero_not p.skipped h))

  pub place_rows : (p : Place) (m : Mode) → p.skipped ≡ 0 → p.mode ≡ m
      → enter_in names bytes leads in_link m name p.links events ≡ enter_rows names bytes leads in_link p name events
  place_rows p m h e =
      ap (λ (z : Mode). enter_in names bytes leads in_link z name p.links events) (sym e)
      ∙ ap (λ (t : Bool). if t then enter_in names bytes leads in_link p.mode name p.links events else []) (sym (zero_is p.skipped h))

  -- ---- links and images, whose targets were read ahead

  abbrev entered_as : LinkedKind → List InlineRow
  entered_as kind = EnterLinked kind (leads (target_by names bytes after)) ∷ []

  pub parts_by : (a b : Bool) → same_name name n.Link ≡ a → same_name name n.Image ≡ b
      → parts None ≡ (if a then entered_as Link else (if b then entered_as Image else alone (sequence_of name)))
  parts_by a b l i =
      ap (λ (t : Bool). if t then entered_as Link else (if same_name name n.Image then entered_as Image else alone (sequence_of name))) l
      ∙ ap (λ (t : Bool). if a then entered_as Link else (if t then entered_as Image else alone (sequence_of name))) i

  leads_by : (kind : LinkedKind) (ahead : Spelled) (target : LinkTexts) → same_name name n.GfmFootnoteCall ≡ false → is_listed media_names name ≡ true
      → (is_listed media_names name ≡ true → ahead ≡ own) → target ≡ ahead.leads → EnterLinked kind target ∷ [] ≡ entered_as kind
  leads_by kind ahead target c m a t =
      ap (λ (z : LinkTexts). EnterLinked kind z ∷ [])
      (t
      ∙ ap (λ (z : Spelled). z.leads) (a m)
      ∙ ap (λ (z : Bool). (if z then spelled nowhere (label_by names bytes after) else spelled (leads (target_by names bytes after)) []).leads) c)

  pub link_row : (ahead : Spelled) (target : LinkTexts) → same_name name n.Link ≡ true → (is_listed media_names name ≡ true → ahead ≡ own)
      → target ≡ ahead.leads → EnterLinked Link target ∷ [] ≡ parts None
  link_row ahead target l a t =
      leads_by Link ahead target (ap (λ (z : Name). same_name z n.GfmFootnoteCall) (link_is name l)) (ap (is_listed media_names) (link_is name l)) a t
      ∙ sym (parts_by true (same_name name n.Image) l refl)

  pub image_row : (ahead : Spelled) (target : LinkTexts) → same_name name n.Link ≡ false → same_name name n.Image ≡ true
      → (is_listed media_names name ≡ true → ahead ≡ own) → target ≡ ahead.leads → EnterLinked Image target ∷ [] ≡ parts None
  image_row ahead target l i a t =
      leads_by Image ahead target (ap (λ (z : Name). same_name z n.GfmFootnoteCall) (image_is name i)) (ap (is_listed media_names) (image_is name i)) a t
      ∙ sym (parts_by false true l i)

  -- ---- others

  pub raw_row : (found : Option Name) (text : List ℕ) (leaf : InlineLeaf) → Some text ≡ raw_of bytes found after
      → leaf ≡ raw_leaf name (without_padding text) → Part leaf ∷ [] ≡ alone found
  raw_row None text leaf h e = absurd (cc)
  raw_row (Some sequence) text leaf h e =
      let same : text ≡ raw_after bytes sequence false 0 after = cc in
      ap (λ (z : InlineLeaf). Part z ∷ []) (e ∙ ap (λ (z : List ℕ). raw_leaf name (without_padding z)) same)

  pub no_raw_row : (found : Option Name) → None ≡ raw_of bytes found after → alone None ≡ alone found
  no_raw_row None h = refl
  no_raw_row (Some sequence) h = absurd (cc)

  abbrev checks : List InlineRow
  checks = Part (TaskCheck (has n.GfmTaskListItemValueChecked after)) ∷ []

  others_by : (a b : Bool) → same_name name n.GfmFootnoteCall ≡ a → same_name name n.GfmTaskListItemCheck ≡ b
      → alone None ≡ (if a then CallRow (label_by names bytes after) ∷ []
      else (if b then checks else leaf_rows names bytes (in_link || not (links == 0)) name events))
  others_by a b c k =
      let leaf = leaf_rows names bytes (in_link || not (links == 0)) name events in
      ap (λ (t : Bool). if t then CallRow (label_by names bytes after) ∷ [] else (if same_name name n.GfmTaskListItemCheck then checks else leaf)) c
      ∙ ap (λ (t : Bool). if a then CallRow (label_by names bytes after) ∷ [] else (if t then checks else leaf)) k

  pub call_row : (ahead : Spelled) (label : List ℕ) → same_name name n.GfmFootnoteCall ≡ true → (is_listed media_names name ≡ true → ahead ≡ own)
      → label ≡ ahead.label → CallRow label ∷ [] ≡ alone None
  call_row ahead label c a t =
      ap (λ (z : List ℕ). CallRow z ∷ [])
      (t
      ∙ ap (λ (z : Spelled). z.label) (a (ap (is_listed media_names) (call_is name c)))
      ∙ ap (λ (z : Bool). (if z then spelled nowhere (label_by names bytes after) else spelled (leads (target_by names bytes after)) []).label) c)
      ∙ sym (others_by true (same_name name n.GfmTaskListItemCheck) c refl)

  pub check_row : (done : Bool) → same_name name n.GfmFootnoteCall ≡ false → same_name name n.GfmTaskListItemCheck ≡ true
      → done ≡ has n.GfmTaskListItemValueChecked after → Part (TaskCheck done) ∷ [] ≡ alone None
  check_row done c k d = ap (λ (z : Bool). Part (TaskCheck z) ∷ []) d ∙ sym (others_by false true c k)

  pub leaf_row : (linked : Bool) → same_name name n.GfmFootnoteCall ≡ false → same_name name n.GfmTaskListItemCheck ≡ false
      → linked ≡ (in_link || not (links == 0)) → leaf_rows names bytes linked name events ≡ alone None
  leaf_row linked c k l = ap (λ (z : Bool). leaf_rows names bytes z name events) l ∙ sym (others_by false false c k)
