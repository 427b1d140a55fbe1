-- The pieces of a text: what its events enter and exit, with the codes of what holds no other. They have no places: these follow from the codes.
use Rattle.std.specs.Prelude.{Bool, ◌&&◌, if◌then◌else◌, List, [], ◌∷◌, ◌++◌}
use Rattle.definition_text.specs.Columns.{Code}
use Rattle.engine_events.specs.Names.{same_name}
use Rattle.engine_events.specs.declared.event.Name.{Name}
use Rattle.engine_events.specs.declared.event.Name.TheVariants as n

-- A token, with what it takes of the text: a code for each byte or line ending, or for each column of a line. Or a name around other pieces.
mutual
  pub data Piece : Type 0 where
    Token : Name → List Code → Piece
    Around : Name → Pieces → Piece

  pub data Pieces : Type 0 where
    Nil : Pieces
    Cons : Piece → Pieces → Pieces

-- ---- pieces side by side

abbrev pub join : Pieces → Pieces → Pieces
join Nil others = others
join (Cons p ps) others = Cons p (join ps others)

abbrev pub join_all : List Pieces → Pieces
join_all [] = Nil
join_all (ps ∷ more) = join ps (join_all more)

-- a token; nothing if it takes no code
abbrev pub token : Name → List Code → Pieces
token name [] = Nil
token name (c ∷ cs) = Cons (Token name (c ∷ cs)) Nil

abbrev pub around : Name → Pieces → Pieces
around name kids = Cons (Around name kids) Nil

-- ---- runs of codes

-- one more code in front: in the first token if that has this name, and otherwise in a token of its own
abbrev pub in_first : Name → Code → Pieces → Pieces
in_first name c (Cons (Token other cs) ps) =
    if same_name name other then Cons (Token other (c ∷ cs)) ps else Cons (Token name (c ∷ [])) (Cons (Token other cs) ps)
in_first name c ps = Cons (Token name (c ∷ [])) ps

-- codes, each with a name: neighbours with the same name are one token
abbrev pub grouped : (Code → Name) → List Code → Pieces
grouped name [] = Nil
grouped name (c ∷ cs) = in_first (name c) c (grouped name cs)

-- ---- data

-- a token before others: two neighbours that are data are one
abbrev pub token_before : Name → List Code → Pieces → Pieces
token_before name cs (Cons (Token other ds) ps) =
    if same_name name n.Data && same_name other n.Data then Cons (Token n.Data (cs ++ ds)) ps else Cons (Token name cs) (Cons (Token other ds) ps)
token_before name cs ps = Cons (Token name cs) ps

abbrev mutual
  pub merged_before : Piece → Pieces → Pieces
  merged_before (Token name cs) ps = token_before name cs ps
  merged_before (Around name kids) ps = Cons (Around name (merged kids)) ps

  -- the same pieces with no data beside data
  pub merged : Pieces → Pieces
  merged Nil = Nil
  merged (Cons p ps) = merged_before p (merged ps)
