-- Files by first mention, their makers, and the lists of an edge.
use Rattle.std.specs.Prelude.{ℕ, cond, List, [], ◌∷◌, ◌++◌, length, Some, None, Option, nat_lt, slice_set}
use Rattle.store.specs.declared.wrong.Wrong.TheVariants.{Made, Limit}
use Rattle.store.specs.Try.{Try, got, wrong, and_try}
use Rattle.expansion.specs.Model.{TextsData, read_path}
use Rattle.graph.specs.Data.{FileData, path_at, maker_at}
use Rattle.names.specs.Named.{place_from_on}

-- a file's number, and all files after it was mentioned
pub record Mentioned : Type 0 where
  pub file : ℕ
  pub files : List FileData

-- the file with the path p, which stands at the place o among fs or is new; 256 files at most
abbrev pub mention_at : Option ℕ → List FileData → List ℕ → Try Mentioned
mention_at (Some i) fs p = got (record { file = i; files = fs })
mention_at None fs p =
    cond (nat_lt (length fs) 256) (got (record { file = length fs; files = fs ++ record { path = p; maker = None } ∷ [] })) (wrong Limit)

-- the file with the path p
abbrev pub mention : List FileData → List ℕ → Try Mentioned
mention fs p = mention_at (place_from_on (λ f. f.path) 0 fs p) fs p

-- the edge e makes the file i, whose maker is o so far
abbrev pub claim_from : Option ℕ → List FileData → ℕ → ℕ → Try (List FileData)
claim_from (Some d) fs i e = wrong Made
claim_from None fs i e = got (slice_set fs i (record { path = path_at fs i; maker = Some e }))

-- the edge e makes the file i, which no edge made so far
abbrev pub claim : List FileData → ℕ → ℕ → Try (List FileData)
claim fs i e = claim_from (maker_at fs i) fs i e

-- one number more in a list of at most k
abbrev pub listed : ℕ → List ℕ → ℕ → Try (List ℕ)
listed k ns n = cond (nat_lt (length ns) k) (got (ns ++ n ∷ [])) (wrong Limit)

-- what the paths of a list have come to: all texts and files, and the list's numbers
pub record Walk : Type 0 where
  pub texts : TextsData
  pub files : List FileData
  pub found : List ℕ

-- a path of a list of at most k inputs or validations
abbrev pub take_input : ℕ → Walk → List ℕ → Try Walk
take_input k w v =
    and_try (read_path w.texts v) (λ r.
    and_try (mention w.files r.text) (λ m.
    and_try (listed k w.found m.file) (λ ns. got (record { texts = r.texts; files = m.files; found = ns }))))

-- a path of the outputs of the edge e, of which there are at most 8
abbrev pub take_output : ℕ → Walk → List ℕ → Try Walk
take_output e w v =
    and_try (read_path w.texts v) (λ r.
    and_try (mention w.files r.text) (λ m.
    and_try (claim m.files m.file e) (λ fs.
    and_try (listed 8 w.found m.file) (λ ns. got (record { texts = r.texts; files = fs; found = ns })))))

-- a list that begins where another ended
abbrev pub afresh : Walk → Walk
afresh w = record { texts = w.texts; files = w.files; found = [] }
