-- Reading is a function: what `push`, `flush` and `subtokenize` say of it.
use Rattle.std.proofs.Common.{◌≡◌, ◌∙◌, ◌⊎◌, ℕ, ◌+◌, List, [], ◌∷◌, Bool, true, false, Option, Some, if◌then◌else◌, length, refl, sym, ap, subst, arith}
use Rattle.markdown_engine.proofs.Prelude.{after_chunk, AreApart, ArePlaces, Attempt, Chain, chains, chunks, chunks_of, Config, Content, Context, counts}
use Rattle.markdown_engine.proofs.Prelude.{Divides, EditAt, end_of, end_state, Err, Event, first_state, found_both, FoundLabels, fresh_config, GoesAll}
use Rattle.markdown_engine.proofs.Prelude.{HasCompleted, Holds, HoldsAt, IsCut, IsFed, IsPlace, IsRefused, LawfulAt, MayBegin, nothing_found, Ok, Outcome}
use Rattle.markdown_engine.proofs.Prelude.{place_at, Point, RanksAt, read_with, reading, ReadsChain, resolve_all, Resolves, Result, Runs, Source, source}
use Rattle.markdown_engine.proofs.Prelude.{State, Steps, Subtokenizes, text_to, Tokenizer, view_config, with_chunks, with_division, with_skip, without_skips}
use Rattle.std.specs.Prelude.{IfOk, IsErr}
use Rattle.engine_states.specs.declared.state.State.TheVariants as states
use Rattle.markdown_engine.specs.Chains.{AreReadable}
use Rattle.markdown_engine.specs.Chains.{starts_line}
use Rattle.markdown_engine.specs.Evaluation.{AreReadingOf, IsReadingOf, StaysReading, after_chain, chain_edits, chain_reading}
use Rattle.markdown_engine.specs.Laws.{Ranks}
use Rattle.markdown_engine.specs.Machine.{bytes_of}
use Rattle.markdown_engine.proofs.ChainSteps.{apart_first, apart_front, apart_rest, after_front}
use Rattle.markdown_engine.proofs.Push.{unless_refused}
use Rattle.markdown_engine.proofs.Total.{feeds_to, has_outcome}
use Rattle.markdown_engine.proofs.Turns.{rank_enough, reads_valid}

-- a text up to where it may be cut feeds
feeds : (s : Source) (to : ℕ × ℕ) (bytes : List ℕ) → s.bytes ≡ bytes → IsCut s.bytes to → (p : Point) → let text = text_to s to in
    IsFed (length bytes) p (text.start p) (text.byte (text.start p))
feeds s to bytes e cut p = subst (λ (z : List ℕ). let text = text_to s to in
    IsFed (length z) p (text.start p) (text.byte (text.start p))) e (feeds_to s to cut.within cut.column p)

module _ {M : Type 0} (bytes : List ℕ) (valid : HoldsAt M) (step : Steps M) (rank : RanksAt M) (lawful : LawfulAt (length bytes) valid step rank) (s : Source)
    (to : ℕ × ℕ) (same : s.bytes ≡ bytes) (cut : IsCut s.bytes to) where
  pub computes : (c d : Config M) (stack : List Attempt) (t : State) (w : Bool) → valid c stack t → Outcome (text_to s to) step stack c [] t d w
      → reading (text_to s to) step rank c stack t ≡ Some (d, w)
  computes c d stack t w h o = rank_enough (length bytes) valid step rank lawful (text_to s to) (feeds s to bytes same cut) c d stack t w h o

  pub computes_valid : (c d : Config M) (t : State) (w : Bool) → valid c [] t → Runs (text_to s to) step c [] t d w → valid d [] (end_state w)
  computes_valid c d t w h r = reads_valid (length bytes) valid step rank lawful (text_to s to) (feeds s to bytes same cut) c d t w h r

  -- where one reading goes on to whatever another comes to, they are the same
  same_reading : (c d : Config M) (stack later : List Attempt) (t u : State) → valid c stack t → valid d later u
      → ((e : Config M) (w : Bool) → Outcome (text_to s to) step later d [] u e w → Outcome (text_to s to) step stack c [] t e w)
      → reading (text_to s to) step rank d later u ≡ reading (text_to s to) step rank c stack t
  same_reading c d stack later t u h k back =
      let (e, w, o) = has_outcome (length bytes) valid step rank lawful (text_to s to) (feeds s to bytes same cut) d later u k in
      computes d e later u w k o ∙ sym (computes c e stack t w h (back e w o))

-- what was pushed stays the same reading
pub stays_reading : {M V T A : Type 0} (view : M → V) (x : Context T) (valid : Holds T V) (steps : Context T
    → Steps V) (ranks : Ranks T V) (lawful : LawfulAt (length x.bytes) (valid x) (steps x) (ranks x)) (to : ℕ
    × ℕ) (start new : Tokenizer M T A) (given s : State)
    → read_with start ≡ x → read_with new ≡ x → valid x (view_config view start) start.attempts.items given
    → valid x (view_config view new) new.attempts.items s → GoesAll view (steps x) (source start) to false given start new s
    → StaysReading view steps ranks to given start new s
stays_reading {V = V} {T = T} view x valid steps ranks lawful to start new given s e f h k g more limit cut on =
    let text = text_to more limit in
    let bytes : more.bytes ≡ x.bytes = on.bytes ∙ ap (λ (z : Context T). z.bytes) e in
    let at = λ (z : Context T) (c : Config V) (stack : List Attempt) (t : State). reading text (steps z) (ranks z) c stack t in
    ap (λ (z : Context T). at z (view_config view new) new.attempts.items s) f
    ∙ (same_reading x.bytes (valid x) (steps x) (ranks x) lawful more limit bytes cut (view_config view start)
    (view_config view new) start.attempts.items new.attempts.items given s h k (g more limit on).back
    ∙ sym (ap (λ (z : Context T). at z (view_config view start) start.attempts.items given) e))

pub stays_unless : {M V T A : Type 0} (view : M → V) (x : Context T) (valid : Holds T V) (steps : Context T
    → Steps V) (ranks : Ranks T V) (lawful : LawfulAt (length x.bytes) (valid x) (steps x) (ranks x)) (to : ℕ
    × ℕ) (start new : Tokenizer M T A) (given s : State)
    → read_with start ≡ x → read_with new ≡ x → valid x (view_config view start) start.attempts.items given → (IsRefused s → ⊥) → IsRefused s
    ⊎ valid x (view_config view new) new.attempts.items s → IsRefused s ⊎ GoesAll view (steps x) (source start) to false given start new s
    → StaysReading view steps ranks to given start new s
stays_unless view x valid steps ranks lawful to start new given s e f h n k g =
    stays_reading view x valid steps ranks lawful to start new given s e f h (unless_refused s n k) (unless_refused s n g)

-- what was flushed is what reading comes to
pub flushed_reading : {M V T A : Type 0} (view : M → V) (steps : Context T → Steps V) (ranks : Ranks T V) (resolves : Context T
    → Resolves V) (valid : Holds T V) (to : ℕ × ℕ) (all : Bool) (given : State) (old new : Tokenizer M T A) (found : FoundLabels)
    → (let x = read_with old in LawfulAt (length x.bytes) (valid x) (steps x) (ranks x)) → IsCut (bytes_of old) to
    → valid (read_with old) (view_config view old) old.attempts.items given
    → HasCompleted view (text_to (source old) to) (steps (read_with old)) (resolves (read_with old)) all given old new found
    → IsReadingOf view steps ranks resolves to all given old new found
flushed_reading view steps ranks resolves valid to all given old new found lawful cut h k =
    let x = read_with old in
    record {
      read = k.read;
      reading = computes (bytes_of old) (valid x) (steps x) (ranks x) lawful (source old) to refl cut
          (view_config view old) k.read old.attempts.items given true h k.outcome;
      config = k.config;
      labels = k.labels;
    }

pub if_err : {X E : Type 0} (r : Result X E) (P : X → Type 0) → IsErr r → IfOk r P
if_err (Ok x) P h = absurd (let e : false ≡ true = h in cc)
if_err (Err e) P h = tt

-- Chains

first_place : (bytes : List ℕ) (events : List Event) (k from : ℕ) → ArePlaces bytes events → AreApart from (chunks events k) (length events)
    → IsPlace bytes (place_at events k)
first_place bytes [] k from places h = record { within = omega arith; column = λ e. refl }
first_place bytes (e ∷ es) k from places h = let low = apart_first from k _ (length (e ∷ es)) h in places k (omega (arith, low))

after_bytes : (end p : Point) (s : Source) → (after_chunk end p s).bytes ≡ s.bytes
after_bytes end p s = elim (starts_line s.bytes end p) as (λ b. (if b then with_skip s p else s).bytes ≡ s.bytes) [ true ↦ refl | false ↦ refl ]

module _ {M : Type 0} (valid : HoldsAt M) (step : Steps M) (rank : RanksAt M) (resolve : Resolves M) (bytes : List ℕ) (machine : M) (events : List Event)
    (lawful : LawfulAt (length bytes) valid step rank) (places : ArePlaces bytes events) where
  chunks_bytes : (ks : List ℕ) (end : Point) (s : Source) → (with_chunks events end ks s).bytes ≡ s.bytes
  chunks_bytes [] end s = refl
  chunks_bytes (k ∷ ks) end s = chunks_bytes ks (place_at events (k + 1)) (after_chunk end (place_at events k) s) ∙ after_bytes end (place_at events k) s

  end_place : (ks : List ℕ) (from : ℕ) (p : Point) → IsPlace bytes p → AreApart from ks (length events) → IsPlace bytes (end_of events p ks)
  end_place [] from p h a = h
  end_place (k ∷ ks) from p h a = let low = apart_first from k ks (length events) a in
      end_place ks (k + 2) (place_at events (k + 1)) (places (k + 1) (omega (arith, low))) a.1

  chain_cut : (c : Chain) (from : ℕ) → AreApart from (chunks events c.0) (length events)
      → (let first = place_at events c.0 in let end = end_of events first (chunks events c.0) in
      let s = with_chunks events first (chunks events c.0) (without_skips bytes) in (s.bytes ≡ bytes) × IsCut s.bytes (end.index, end.vs))
  chain_cut c from apart =
      let first = place_at events c.0 in
      let ks = chunks events c.0 in
      let end = end_of events first ks in
      let same = chunks_bytes ks first (without_skips bytes) in
      let place = end_place ks from first (first_place bytes events c.0 from places apart) apart in
      (same, subst (λ (z : List ℕ). IsCut z (end.index, end.vs)) (sym same) place)

  -- what is read of a chain holds
  pub chain_valid : (c : Chain) (children : List Event) (more : FoundLabels) (from : ℕ) → AreApart from (chunks events c.0) (length events)
      → valid (fresh_config (place_at events c.0) machine) [] (states.Next (first_state c.1))
      → (r : ReadsChain step resolve bytes machine events c children more) → valid r.read [] states.Ok
  chain_valid c children more from apart h r =
      let first = place_at events c.0 in
      let end = end_of events first (chunks events c.0) in
      let k = chain_cut c from apart in
      computes_valid bytes valid step rank lawful (with_chunks events first (chunks events c.0) (without_skips bytes)) (
        end.index,
        end.vs,
      ) k.0 k.1 (fresh_config first machine) r.read (states.Next (first_state c.1)) true h r.runs

  chain_computes : (c : Chain) (children : List Event) (more : FoundLabels) (from : ℕ) → AreApart from (chunks events c.0) (length events)
      → valid (fresh_config (place_at events c.0) machine) [] (states.Next (first_state c.1))
      → (r : ReadsChain step resolve bytes machine events c children more) → chain_reading step rank resolve bytes machine events c ≡ Some (r.read, true)
  chain_computes c children more from apart h r =
      let first = place_at events c.0 in
      let ks = chunks events c.0 in
      let end = end_of events first ks in
      let k = chain_cut c from apart in
      computes bytes valid step rank lawful (with_chunks events first ks (without_skips bytes)) (
        end.index,
        end.vs,
      ) k.0 k.1 (fresh_config first machine) r.read [] (states.Next (first_state c.1)) true h
      (record { mid = r.read; how = true; runs = r.runs; unwinds = (refl, refl) })

  all_edits : (cs : List Chain) (acc : ℕ × ℕ) (edits all : List EditAt) (found total : FoundLabels) (from : ℕ)
      → AreApart from (chunks_of events cs) (length events)
      → MayBegin valid machine events cs
      → Divides step resolve bytes machine events cs acc edits all found total
      → chain_edits step rank resolve bytes machine events cs acc edits found ≡ Some (all, total)
  all_edits [] acc edits all found total from a b d = ap (λ (z : List EditAt). Some (z, found)) d.0 ∙ ap (λ (z : FoundLabels). Some (all, z)) d.1
  all_edits (c ∷ cs) acc edits all found total from a b (children, more, r, rest) =
      let ks = chunks events c.0 in
      let all_read = resolve_all resolve r.read in
      let on = λ (z : List Event) (f : FoundLabels). chain_edits step rank resolve bytes machine events cs (counts events ks z 0 acc.0 acc.1)
      (with_division events c.0 z acc edits) (found_both found f) in
      let first = chain_computes c children more from (apart_front from ks (chunks_of events cs) (length events) a) b.0 r in
      let later = all_edits cs (counts events ks children 0 acc.0 acc.1) (with_division events c.0 children acc edits) all (found_both found more) total
      (after_front from ks) (apart_rest from ks (chunks_of events cs) (length events) a) b.1 rest in
      ap (after_chain step rank resolve bytes machine events (λ z. on z.config.events z.found)) first
      ∙ (ap (λ (z : List Event). on z all_read.found) (sym r.added) ∙ (ap (λ (z : FoundLabels). on children z) (sym r.labels) ∙ later))

  pub chains_computed : (filter : Option Content) (new : List Event) (found : FoundLabels) → AreReadable bytes filter events
      → MayBegin valid machine events (chains filter events) → (k : Subtokenizes step resolve bytes machine filter events new found)
      → chain_edits step rank resolve bytes machine events (chains filter events) (0, 0) [] nothing_found ≡ Some (k.edits, found)
  chains_computed filter new found readable b k = all_edits (chains filter events) (0, 0) [] k.edits nothing_found found 0 readable.apart b k.divides

-- each chain that is asked for is read, and that is a function of the events
pub chains_read : {T M : Type 0} (x : Context T) (valid : Holds T M) (steps : Context T → Steps M) (ranks : Ranks T M) (resolves : Context T
    → Resolves M) (machine : M) (filter : Option Content) (old new : List Event) (found : FoundLabels)
    → LawfulAt (length x.bytes) (valid x) (steps x) (ranks x) → AreReadable x.bytes filter old → MayBegin (valid x) machine old (chains filter old)
    → Subtokenizes (steps x) (resolves x) x.bytes machine filter old new found → AreReadingOf steps ranks resolves x machine filter old new found
chains_read x valid steps ranks resolves machine filter old new found lawful readable b k =
    (k.edits, chains_computed (valid x) (steps x) (ranks x) (resolves x) x.bytes machine old lawful readable.places filter new found readable b k, k.edited)
