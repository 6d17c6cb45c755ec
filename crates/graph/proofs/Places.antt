-- What stands at a place of a list, once each element is read as what it means.
use Rattle.std.proofs.Common.{◌≡◌, ℕ, ◌<◌, List, map, length, get_or, vec_items, sym, ap, ◌∙◌}
use Rattle.std.specs.Str.{bytes_eq}
use Rattle.std.proofs.lemmas.List.{length-map, get_or-map}
use Rattle.graph.specs.declared.kinds.File.{File}
use Rattle.std.specs.List.{position}
use Rattle.graph.specs.Circle.{least}
use Rattle.graph.specs.Graphs.{file_named}
use Rattle.graph.proofs.Counts.{position_least}
use Rattle.graph.specs.Data.{FileData, file_of, no_file, path_at}

pub path_here : (files : List File) (f : ℕ) (x : File) → f < length files → x ≡ get_or files f x → path_at (map file_of files) f ≡ vec_items x.path
path_here files f x h q = ap (λ (y : FileData). y.path) (get_or-map file_of files f x no_file h ∙ ap file_of (sym q))

-- the first file with the path, in the code's list and in what it means
pub named_place : (files : List File) (p : List ℕ) → position (λ (x : File). bytes_eq (vec_items x.path) p) files ≡ file_named (map file_of files) p
named_place files p =
    position_least (λ (x : File). bytes_eq (vec_items x.path) p) files (λ f. bytes_eq (path_at (map file_of files) f) p) (λ k x l e. ap (λ t. bytes_eq t p) (path_here files k x l e))
    ∙ ap (least (λ f. bytes_eq (path_at (map file_of files) f) p) 0) (sym (length-map files file_of))
