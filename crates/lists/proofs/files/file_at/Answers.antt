use Rattle.std.proofs.Common.{◌<◌, length, IfSome, vec_items, sym, ◌∙◌, subst, arith}
use Rattle.graph.specs.Data.{file_of}
use Rattle.names.proofs.Finds.{place_map}
use Rattle.lists.proofs.Mentions.{place_within}
use Rattle.lists.proofs.files.file_at.Goals as goal

pub returns : goal.returns
returns c =
    let fs = c.args.files.now in
    record {
      is = c.place_of.ensures ∙ sym (place_map (λ f. f.path) file_of 0 fs c.args.path.now);
      within = subst (λ o. IfSome o (λ i. i < length fs)) (sym c.place_of.ensures) (place_within (λ f. vec_items f.path) 0 fs c.args.path.now (length fs) (omega arith));
    }
