-- Chains: their chunks one after another, what is skipped before them, and the edits that replace them.
use Rattle.std.proofs.Common.{◌≡◌, ◌∙◌, ℕ, ◌+◌, ◌<◌, ◌≤◌, zero, suc, Bool, true, false, ◌&&◌, List, [], ◌∷◌, ◌++◌, length, drop, get_or, Option, refl, ap}
use Rattle.std.proofs.Common.{subst, sym, arith}
use Rattle.markdown_engine.proofs.Prelude.{after_chunk, AreApart, ArePlaces, Chain, chains, chains_from, chunks, chunks_of, config, Config, Content, Context}
use Rattle.markdown_engine.proofs.Prelude.{counts, Divides, drop_more, EditAt, end_of, Event, first_state, found_both, FoundLabels, fresh_config, HasCompleted}
use Rattle.markdown_engine.proofs.Prelude.{Holds, HoldsAt, IsPlace, MayBegin, nothing_found, Outcome, place_at, Point, ReadsChain, Resolves, Source, source}
use Rattle.markdown_engine.proofs.Prelude.{State, Steps, Text, text_to, Tokenizer, view_config, with_chunks, with_division, without_skips}
use Rattle.engine_states.specs.declared.state.State.TheVariants as states
use Rattle.engine_events.specs.Events.{point_of}
use Rattle.markdown_engine.specs.Chains.{chain_content, with_chain}
use Rattle.markdown_engine.specs.Chains.{chain_text, IsFresh, ReadsChainIn, is_empty}
use Rattle.markdown_engine.proofs.ChainLaws.{apart_room}
use Rattle.markdown_engine.proofs.Push.{at_outcome, whole_run}

pub place_read : (events : List Event) (k : ℕ) (d : Event) → k < length events → point_of (get_or events k d) ≡ place_at events k
place_read [] k d h = absurd (omega arith)
place_read (e ∷ es) zero d h = refl
place_read (e ∷ es) (suc k) d h = place_read es k d (omega arith)

pub apart_first : (from k : ℕ) (ks : List ℕ) (count : ℕ) → AreApart from (k ∷ ks) count → k + 2 ≤ count
apart_first from k ks count h = apart_room (k + 2) ks count h.1

-- a front of them
pub apart_front : (from : ℕ) (ks more : List ℕ) (count : ℕ) → AreApart from (ks ++ more) count → AreApart from ks count
apart_front from [] more count h = apart_room from more count h
apart_front from (k ∷ ks) more count h = (h.0, apart_front (k + 2) ks more count h.1)

-- from the first index on
pub apart_all : (from : ℕ) (ks : List ℕ) (count : ℕ) → AreApart from ks count → AreApart 0 ks count
apart_all from [] count h = omega arith
apart_all from (k ∷ ks) count h = (omega arith, h.1)

-- where a front of them ends
abbrev pub after_front : ℕ → List ℕ → ℕ
after_front from [] = from
after_front from (k ∷ ks) = after_front (k + 2) ks

pub apart_rest : (from : ℕ) (ks more : List ℕ) (count : ℕ) → AreApart from (ks ++ more) count → AreApart (after_front from ks) more count
apart_rest from [] more count h = h
apart_rest from (k ∷ ks) more count h = apart_rest (k + 2) ks more count h.1

-- what the walk that skips before chunks keeps
pub record Skipping {M T A : Type 0} (events : List Event) (end : Point) (chain : List ℕ) (t : Tokenizer M T A) (first : Point) (all : List ℕ)
    (old : Tokenizer M T A) : Type 0 where
  pub source : with_chunks events end chain (source t) ≡ with_chunks events first all (source old)
  pub ends : end_of events end chain ≡ end_of events first all
  pub config : config t ≡ config old
  pub attempts : t.attempts.items ≡ old.attempts.items
  pub parse_state : t.parse_state.now ≡ old.parse_state.now
  pub failed : t.failed ≡ old.failed
  pub place : IsPlace old.parse_state.now.bytes.now end
  pub from : ℕ
  pub apart : AreApart from chain (length events)

module _ {M T A : Type 0} (events : List Event) where
  pub skipping_on : (end : Point) (ks rest : List ℕ) (k : ℕ) (t u : Tokenizer M T A) (first : Point) (all : List ℕ) (old : Tokenizer M T A) → ks ≡ k ∷ rest
      → ArePlaces old.parse_state.now.bytes.now events
      → source u ≡ after_chunk end (place_at events k) (source t) → config u ≡ config t → u.attempts ≡ t.attempts → u.parse_state ≡ t.parse_state
      → u.failed ≡ t.failed
      → Skipping events end ks t first all old → Skipping events (place_at events (k + 1)) rest u first all old
  skipping_on end ks rest k t u first all old e places es ec ea eb ef h =
      let g : Skipping events end (k ∷ rest) t first all old = subst (λ (z : List ℕ). Skipping events end z t first all old) e h in
      let low = apart_first g.from k rest (length events) g.apart in
      record {
        source = ap (λ (z : Source). with_chunks events (place_at events (k + 1)) rest z) es ∙ g.source;
        ends = g.ends;
        config = ec ∙ g.config;
        attempts = rw ea g.attempts;
        parse_state = rw eb g.parse_state;
        failed = ef ∙ g.failed;
        place = places (k + 1) (omega arith);
        from = k + 2;
        apart = g.apart.1;
      }

  -- the next chunk has its exit
  pub next_fits : (end : Point) (chain : List ℕ) (i : ℕ) (t old : Tokenizer M T A) → i < length chain → Skipping events end (drop i chain) t old.point chain old
      → get_or chain i 0 + 2 ≤ length events
  next_fits end chain i t old low h =
      let k = get_or chain i 0 in
      let rest = drop (i + 1) chain in
      apart_first h.from k rest (length events) (subst (λ (z : List ℕ). AreApart h.from z (length events)) (drop_more chain i 0 low) h.apart)

-- what the walk over the chains keeps
pub record Dividing {M : Type 0} (valid : HoldsAt M) (step : Steps M) (resolve : Resolves M) (bytes : List ℕ) (machine : M) (events : List Event)
    (cs : List Chain) (acc : ℕ × ℕ) (edits : List EditAt) (found : FoundLabels) (done : Bool) (all : List Chain) (old : List EditAt) : Type 0 where
  pub divides : (final : List EditAt) (total : FoundLabels) → Divides step resolve bytes machine events cs acc edits final found total
      → Divides step resolve bytes machine events all (0, 0) old final nothing_found total
  pub left : is_empty all ≡ done && is_empty cs
  pub from : ℕ
  pub apart : AreApart from (chunks_of events cs) (length events)
  pub begins : MayBegin valid machine events cs

-- the chains from an event on
pub chains_at : (filter : Option Content) (at : ℕ) (events rest : List Event) (e : Event) (b : Option Content) → events ≡ e ∷ rest → chain_content filter e ≡ b
    → chains_from filter at events ≡ with_chain at b (chains_from filter (at + 1) rest)
chains_at filter at events rest e b h k =
    ap (λ (z : List Event). chains_from filter at z) h ∙ ap (λ (z : Option Content). with_chain at z (chains_from filter (at + 1) rest)) k

module _ {M : Type 0} (valid : HoldsAt M) (step : Steps M) (resolve : Resolves M) (bytes : List ℕ) (machine : M) (events : List Event) where
  -- before the first chain
  pub dividing_none : (cs : List Chain) (edits : List EditAt) (found : FoundLabels) → found ≡ nothing_found → AreApart 0 (chunks_of events cs) (length events)
      → MayBegin valid machine events cs → Dividing valid step resolve bytes machine events cs (0, 0) edits found true cs edits
  dividing_none cs edits found e apart begins = record {
    divides = λ final total d. subst (λ (z : FoundLabels). Divides step resolve bytes machine events cs (0, 0) edits final z total) e d;
    left = refl;
    from = 0;
    apart = apart;
    begins = begins;
  }

  -- after the last one
  pub dividing_all : (cs : List Chain) (acc : ℕ × ℕ) (edits : List EditAt) (found : FoundLabels) (done : Bool) (all : List Chain) (old : List EditAt) → cs ≡ []
      → Dividing valid step resolve bytes machine events cs acc edits found done all old
      → Divides step resolve bytes machine events all (0, 0) old edits nothing_found found × (done ≡ is_empty all)
  dividing_all cs acc edits found done all old e h =
      let g : Dividing valid step resolve bytes machine events [] acc edits found done all old =
      subst (λ (z : List Chain). Dividing valid step resolve bytes machine events z acc edits found done all old) e h in
      (g.divides edits found (refl, refl), sym (g.left ∙ alone done))
    where
      alone : (b : Bool) → b && true ≡ b
      alone true = refl
      alone false = refl

  pub dividing_on : (cs rest : List Chain) (c : Chain) (children : List Event) (more : FoundLabels) (acc acc' : ℕ
      × ℕ) (edits edits' : List EditAt) (found found' : FoundLabels) (done : Bool) (all : List Chain) (old : List EditAt) → cs ≡ c ∷ rest
      → ReadsChain step resolve bytes machine events c children more
      → acc' ≡ counts events (chunks events c.0) children 0 acc.0 acc.1 → edits' ≡ with_division events c.0 children acc edits → found' ≡ found_both found more
      → Dividing valid step resolve bytes machine events cs acc edits found done all old
      → Dividing valid step resolve bytes machine events rest acc' edits' found' false all old
  dividing_on cs rest c children more acc acc' edits edits' found found' done all old e reads ea ee ef h =
      let g : Dividing valid step resolve bytes machine events (c ∷ rest) acc edits found done all old =
      subst (λ (z : List Chain). Dividing valid step resolve bytes machine events z acc edits found done all old) e h in
      let made = with_division events c.0 children acc edits in
      record {
        divides = λ final total d. g.divides final total (
          children,
          more,
          reads,
          subst (λ (z : FoundLabels). Divides step resolve bytes machine events rest
              (counts events (chunks events c.0) children 0 acc.0 acc.1) made final z total)
              ef (subst (λ (z : ℕ × ℕ). Divides step resolve bytes machine events rest z made final found' total) ea
              (subst (λ (z : List EditAt). Divides step resolve bytes machine events rest acc' z final found' total) ee d)),
        );
        left = g.left ∙ never done;
        from = after_front g.from (chunks events c.0);
        apart = apart_rest g.from (chunks events c.0) (chunks_of events rest) (length events) g.apart;
        begins = g.begins.1;
      }
    where
      never : (b : Bool) → b && false ≡ false
      never true = refl
      never false = refl

module _ {M V T A : Type 0} (view : M → V) (step : Steps V) (resolve : Resolves V) (bytes : List ℕ) (machine : V) (events : List Event) (first : ℕ)
    (content : Content) where
  -- what was read of a chain's text by a tokenizer that skips before its chunks
  read_of : (start mid new : Tokenizer M T A) (chain : List ℕ) (end : Point) (given : State) (found : FoundLabels) → chain ≡ chunks events first
      → view_config view start ≡ fresh_config (place_at events first) machine → source start ≡ without_skips bytes
      → start.attempts.items ≡ [] → source mid ≡ with_chunks events start.point chain (source start) → end ≡ end_of events start.point chain
      → view_config view mid ≡ view_config view start → mid.attempts.items ≡ start.attempts.items
      → given ≡ states.Next (first_state content) → HasCompleted view (text_to (source mid) (end.index, end.vs)) step resolve true given mid new found
      → ReadsChain step resolve bytes machine events (first, content) new.events.items found
  read_of start mid new chain end given found ek ec eb ea es ee em et eg h =
      let place = place_at events first in
      let ks = chunks events first in
      let last = end_of events place ks in
      let whole : Source = with_chunks events place ks (without_skips bytes) in
      let point : start.point ≡ place = ap (λ (z : Config V). z.point) ec in
      let from : source mid ≡ whole =
      es ∙ (ap (λ (z : Point). with_chunks events z chain (source start)) point
      ∙ (ap (λ (z : List ℕ). with_chunks events place z (source start)) ek ∙ ap (λ (z : Source). with_chunks events place ks z) eb)) in
      let to : end ≡ last = ee ∙ (ap (λ (z : Point). end_of events z chain) point ∙ ap (λ (z : List ℕ). end_of events place z) ek) in
      let text : text_to (source mid) (end.index, end.vs) ≡ chain_text bytes events first =
      ap (λ (z : Source). text_to z (end.index, end.vs)) from ∙ ap (λ (z : Point). text_to whole (z.index, z.vs)) to in
      let f : Outcome (chain_text bytes events first) step mid.attempts.items (view_config view mid) [] given h.read true =
      subst (λ (z : Text). Outcome z step mid.attempts.items (view_config view mid) [] given h.read true) text h.outcome in
      let g = at_outcome (chain_text bytes events first) step mid.attempts.items [] (view_config view mid) (fresh_config place machine) given
      (states.Next (first_state content)) h.read true (et ∙ ea) (em ∙ ec) eg f in
      record {
        read = h.read;
        runs = whole_run (chain_text bytes events first) step (fresh_config place machine) (states.Next (first_state content)) h.read true g;
        added = ap (λ (z : Config V). z.events) h.config;
        labels = h.labels;
      }

  pub chain_read : (start mid new : Tokenizer M T A) (chain : List ℕ) (end : Point) (given : State) (found : FoundLabels) → chain ≡ chunks events first
      → view_config view start ≡ fresh_config (place_at events first) machine → start.parse_state.now.bytes.now ≡ bytes → start.skips.entries ≡ []
      → start.attempts.items ≡ [] → source mid ≡ with_chunks events start.point chain (source start) → end ≡ end_of events start.point chain
      → view_config view mid ≡ view_config view start → mid.attempts.items ≡ start.attempts.items
      → given ≡ states.Next (first_state content) → HasCompleted view (text_to (source mid) (end.index, end.vs)) step resolve true given mid new found
      → ReadsChain step resolve bytes machine events (first, content) new.events.items found
  chain_read start mid new chain end given found ek ec eb eq ea es ee em et eg h =
      let f = λ (b : List ℕ) (s : List (ℕ × Point)). let z : Source = record { bytes = b; skips = s } in z in
      read_of start mid new chain end given found ek ec (ap (λ (z : List ℕ). f z start.skips.entries) eb
      ∙ ap (λ (z : List (ℕ × Point)). f bytes z) eq) ea es ee em et eg h

-- a tokenizer that was just made
pub fresh_at : {M T A : Type 0} (t : Tokenizer M T A) (p q : Point) (machine : M) → config t ≡ fresh_config p machine → p ≡ q → t.attempts.items ≡ []
    → t.skips.entries ≡ [] → IsFresh q t
fresh_at {M = M} t p q machine ec ep ea es = record {
  config = ec
      ∙ (ap (λ (z : Point). fresh_config z machine) ep ∙ ap (λ (z : M). fresh_config q z) (sym (ap (λ (z : Config M). z.machine) ec)));
  attempts = ea;
  skips = es;
}

pub machine_of : {M V T A : Type 0} (view : M → V) (t : Tokenizer M T A) (p : Point) (machine : M) → config t ≡ fresh_config p machine
    → view t.machine ≡ view machine
machine_of {M = M} view t p machine e = ap (λ (z : Config M). view z.machine) e

-- what is read with, and the machine, by other names
pub begins_as : {T M : Type 0} (valid : Holds T M) (x y : Context T) (m n : M) (p : Point) (content : Content) → x ≡ y → m ≡ n
    → valid y (fresh_config p n) [] (states.Next (first_state content)) → valid x (fresh_config p m) [] (states.Next (first_state content))
begins_as {T = T} {M = M} valid x y m n p content e f h =
    subst (λ (z : Context T). valid z (fresh_config p m) [] (states.Next (first_state content))) (sym e)
    (subst (λ (z : M). valid y (fresh_config p z) [] (states.Next (first_state content))) (sym f) h)

pub reads_as : {T M : Type 0} (step : Context T → Steps M) (resolve : Context T → Resolves M) (x y : Context T) (m n : M) (events : List Event)
    (chain : Chain) (children given : List Event) (found : FoundLabels) → x ≡ y → m ≡ n → given ≡ children
    → ReadsChainIn step resolve x m events chain children found → ReadsChainIn step resolve y n events chain given found
reads_as {T = T} {M = M} step resolve x y m n events chain children given found e f g h =
    subst (λ (z : List Event). ReadsChainIn step resolve y n events chain z found) (sym g)
    (subst (λ (z : M). ReadsChainIn step resolve y z events chain children found) f
    (subst (λ (z : Context T). ReadsChainIn step resolve z m events chain children found) e h))

module _ {M : Type 0} (step : Steps M) (resolve : Resolves M) (bytes : List ℕ) (machine : M) where
  -- the same events, filter and edits by other names
  pub divides_as : (given events : List Event) (asked filter : Option Content) (edits all : List EditAt) (total : FoundLabels) → given ≡ events → asked ≡ filter
      → edits ≡ []
      → Divides step resolve bytes machine given (chains asked given) (0, 0) edits all nothing_found total
      → Divides step resolve bytes machine events (chains filter events) (0, 0) [] all nothing_found total
  divides_as given events asked filter edits all total e f n d =
      subst (λ (z : List EditAt). Divides step resolve bytes machine events (chains filter events) (0, 0) z all nothing_found total) n
      (subst (λ (z : Option Content). Divides step resolve bytes machine events (chains z events) (0, 0) edits all nothing_found total) f
      (subst (λ (z : List Event). Divides step resolve bytes machine z (chains asked z) (0, 0) edits all nothing_found total) e d))
