-- What nodes spell, one after another.
use Rattle.std.proofs.Common.{◌≡◌, inl, inr, ℕ, Bool, true, false, List, [], ◌∷◌, ◌++◌, Some, refl, sym, ap, ap₂, ◌∙◌, subst, map, append_assoc}
use Rattle.parse_open.proofs.Prelude.{alike_blocks_compose, append, append-nil, AreBlocksAlike, AreDefinitionsAlike, AreMeanings, AreMute, Around, BeginWith}
use Rattle.parse_open.proofs.Prelude.{block_definitions, block_of, blocks_from, blocks_of, child, Cons, Definition, definition_of, definitions, followed_by}
use Rattle.parse_open.proofs.Prelude.{if◌then◌else◌, inside_of, kids_in, map-append, Meaning, Name, named, Names, Nil, Node, node_name, Nodes, one}
use Rattle.parse_open.proofs.Prelude.{read_blocks, Reading, same_name, Spell, Standing, start_of, text_of}
use Rattle.engine_events.specs.declared.event.Name.TheVariants as n
use Rattle.definition_block.specs.Tree as tree
use Rattle.definition_page.specs.Page as page
use Rattle.event_grammar.specs.References.{named_in}
use Rattle.event_meaning.specs.Blocks.{join}
use Rattle.parse_output.proofs.Marks.{same_self}
use Rattle.parse_references.specs.Sound.{AreSound}
use Rattle.parse_references.proofs.Sound.{sound_both}
use Rattle.parse_open.proofs.Sound.{mute_sound}

pub join-nil : (bs : page.Blocks) → join bs page.Nil ≡ bs
join-nil page.Nil = refl
join-nil (page.Cons b bs) = ap (page.Cons b) (join-nil bs)

join-assoc : (bs cs ds : page.Blocks) → join (join bs cs) ds ≡ join bs (join cs ds)
join-assoc page.Nil cs ds = refl
join-assoc (page.Cons b bs) cs ds = ap (page.Cons b) (join-assoc bs cs ds)

pub followed_is : (ns : Nodes) (node : Node) → followed_by ns node ≡ append ns (one node)
followed_is Nil node = refl
followed_is (Cons first ns) node = ap (Cons first) (followed_is ns node)

pub defined_both : (xs ys : tree.Blocks) → definitions (tree.join xs ys) ≡ definitions xs ++ definitions ys
defined_both tree.Nil ys = refl
defined_both (tree.Cons b xs) ys =
    ap (λ (ds : List Definition). block_definitions b ++ ds) (defined_both xs ys) ∙ sym (append_assoc (block_definitions b) (definitions xs) (definitions ys))

pub named_both : (name : Name) (ns ms : Nodes) → named name (append ns ms) ≡ named name ns ++ named name ms
named_both name Nil ms = refl
named_both name (Cons node ns) ms =
    let first = named name (one node) in
    ap (λ (xs : List Node). named_in name node ++ xs) (named_both name ns ms)
    ∙ sym (append_assoc (named_in name node) (named name ns) (named name ms))

-- nodes that spell nothing hold no definition
pub mute_named : (ns : Nodes) → AreMute ns → named n.Definition ns ≡ []
mute_named Nil are = refl
mute_named (Cons (Around enter kids exit) ns) (inl is, none, more, filled) =
    ap₂ (λ (b : Bool) (xs : List Node). (if b then Around enter kids exit ∷ named n.Definition kids else named n.Definition kids) ++ xs)
    (ap (λ (a : Name). same_name a n.Definition) is) (mute_named ns more)
    ∙ ap (λ (xs : List Node). xs ++ []) none
mute_named (Cons (Around enter kids exit) ns) (inr is, none, more, filled) =
    ap₂ (λ (b : Bool) (xs : List Node). (if b then Around enter kids exit ∷ named n.Definition kids else named n.Definition kids) ++ xs)
    (ap (λ (a : Name). same_name a n.Definition) is) (mute_named ns more)
    ∙ ap (λ (xs : List Node). xs ++ []) none

-- the first child by its name
pub first_kids : (name : Name) (ns ms : Nodes) → BeginWith name ns → kids_in name (append ns ms) ≡ kids_in name ns
first_kids name Nil ms begins = absurd begins
first_kids name (Cons node ns) ms begins =
    let same : same_name (node_name node) name ≡ true = ap (λ (a : Name). same_name a name) begins ∙ same_self name in
    ap (λ (b : Bool). inside_of (if b then Some node else child name (append ns ms))) same
    ∙ sym (ap (λ (b : Bool). inside_of (if b then Some node else child name ns)) same)

pub begins_more : (name : Name) (ns ms : Nodes) → BeginWith name ns → BeginWith name (append ns ms)
begins_more name Nil ms begins = absurd begins
begins_more name (Cons node ns) ms begins = begins

module _ (names : Names) (text : List ℕ) where
  pub blocks_both : (top : Bool) (ns ms : Nodes) → blocks_of names text top (append ns ms) ≡ join (blocks_of names text top ns) (blocks_of names text top ms)
  blocks_both top Nil ms = refl
  blocks_both top (Cons (Around enter kids exit) ns) ms =
      let first = block_of names text top enter.name (text_of text (Around enter kids exit)) kids (blocks_from names text (start_of enter.name) kids) in
      ap (join first) (blocks_both top ns ms) ∙ sym (join-assoc first (blocks_of names text top ns) (blocks_of names text top ms))

  pub mute_blocks : (top : Bool) (ns : Nodes) → AreMute ns → blocks_of names text top ns ≡ page.Nil
  mute_blocks top Nil are = refl
  mute_blocks top (Cons (Around enter kids exit) ns) (inl is, none, more, filled) =
      let t = text_of text (Around enter kids exit) in
      ap (λ (a : Name). join (block_of names text top a t kids (blocks_from names text (start_of a) kids)) (blocks_of names text top ns)) is
      ∙ mute_blocks top ns more
  mute_blocks top (Cons (Around enter kids exit) ns) (inr is, none, more, filled) =
      let t = text_of text (Around enter kids exit) in
      ap (λ (a : Name). join (block_of names text top a t kids (blocks_from names text (start_of a) kids)) (blocks_of names text top ns)) is
      ∙ mute_blocks top ns more

  -- those of a container, from its first on
  pub from_start : (name : Name) (ns : Nodes) → BeginWith name ns → blocks_from names text name ns ≡ blocks_of names text false ns
  from_start name Nil begins = absurd begins
  from_start name (Cons (Around enter kids exit) ns) begins =
      let all = blocks_of names text false (Cons (Around enter kids exit) ns) in
      ap (λ (b : Bool). if b then all else blocks_from names text name ns) (ap (λ (a : Name). same_name a name) begins ∙ same_self name)

-- ---- what blocks are spelled

module _ (r : Reading) (text : List ℕ) (front : Nodes) where
  pub spell_mute : (standing : Standing) (bs : tree.Blocks) (ns ms : Nodes) → AreMute ms → Spell r text front standing bs ns
      → Spell r text front standing bs (append ns ms)
  spell_mute standing bs ns ms are spell =
      let names = r.tables.names in
      record {
        blocks = λ m m' means.
            subst (AreBlocksAlike m m' (read_blocks r standing bs))
            (sym (blocks_both names text standing.top ns ms ∙ ap (join (blocks_of names text standing.top ns)) (mute_blocks names text standing.top ms are)
            ∙ join-nil (blocks_of names text standing.top ns)))
            (spell.blocks m m' means);
        defined = λ m m' means.
            subst (λ (xs : List Node). AreDefinitionsAlike m m' (definitions bs) (map (definition_of names text) xs))
            (sym (named_both n.Definition ns ms ∙ ap (λ (xs : List Node). named n.Definition ns ++ xs) (mute_named ms are)
            ∙ append-nil (named n.Definition ns)))
            (spell.defined m m' means);
        sound = sound_both r.parse.constructs names text ns ms spell.sound (mute_sound r.parse.constructs names text ms are);
      }

  -- nodes spell one more block
  pub record SpellMore (standing : Standing) (b : tree.Block) (more : page.Blocks) (ms : Nodes) : Type 0 where
    pub blocks : (m m' : Meaning) → AreMeanings r.parse.constructs r.tables.names m m'
        → AreBlocksAlike m m' more (blocks_of r.tables.names text standing.top ms)
    pub defined : (m m' : Meaning) → AreMeanings r.parse.constructs r.tables.names m m'
        → AreDefinitionsAlike m m' (definitions (tree.one b)) (map (definition_of r.tables.names text) (named n.Definition ms))
    pub sound : AreSound r.parse.constructs r.tables.names text ms

  pub spell_more : (standing : Standing) (bs : tree.Blocks) (b : tree.Block) (more : page.Blocks) (ns ms : Nodes)
      → read_blocks r standing (tree.join bs (tree.one b)) ≡ join (read_blocks r standing bs) more → SpellMore standing b more ms
      → Spell r text front standing bs ns → Spell r text front standing (tree.join bs (tree.one b)) (append ns ms)
  spell_more standing bs b more ns ms read own spell =
      let names = r.tables.names in
      let define = definition_of names text in
      record {
        blocks = λ m m' means.
            subst (λ (xs : page.Blocks). AreBlocksAlike m m' xs (blocks_of names text standing.top (append ns ms))) (sym read) (
            subst (AreBlocksAlike m m' (join (read_blocks r standing bs) more)) (sym (blocks_both names text standing.top ns ms)) (
            alike_blocks_compose.joined m m' (read_blocks r standing bs) (blocks_of names text standing.top ns) more (blocks_of names text standing.top ms)
            (spell.blocks m m' means) (own.blocks m m' means)));
        defined = λ m m' means.
            subst (λ (ds : List Definition). AreDefinitionsAlike m m' ds (map define (named n.Definition (append ns ms))))
            (sym (defined_both bs (tree.one b))) (
            subst (AreDefinitionsAlike m m' (definitions bs ++ definitions (tree.one b)))
            (sym (ap (map define) (named_both n.Definition ns ms) ∙ map-append define (named n.Definition ns) (named n.Definition ms))) (
            alike_blocks_compose.defined m m' (definitions bs) (map define (named n.Definition ns)) (definitions (tree.one b))
            (map define (named n.Definition ms))
            (spell.defined m m' means) (own.defined m m' means)));
        sound = sound_both r.parse.constructs names text ns ms spell.sound own.sound;
      }
