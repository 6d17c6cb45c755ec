use Rattle.std.proofs.Common.{◌++◌, map, vec_items, ap, ◌∙◌}
use Rattle.graph.specs.Data.{file_of, pool_of, edge_of}
use Rattle.listing.specs.Listing.{file_line, pool_line, edge_lines, store_line, counted}
use Rattle.listing.proofs.Puts.{four_puts, counted_map}
use Rattle.listing.proofs.listing.Goals as goal

pub returns : goal.returns
returns c =
    let files = c.args.files.now in
    let pools = c.args.pools.now in
    let edges = c.args.edges.now in
    four_puts (vec_items c.in_ok-out.out) (vec_items c.put_all.new.out) (vec_items c.put_all-2.new.out) (vec_items c.put_all-3.new.out) (vec_items c.put_store.new.out)
    (counted file_line 0 (map file_of files)) (counted pool_line 0 (map pool_of pools)) (counted edge_lines 0 (map edge_of edges)) (store_line c.args.used c.args.store.now)
    c.in_ok-out.ensures.items
    (c.in_ok-put_all.ensures ∙ ap (λ t. vec_items c.in_ok-out.out ++ t) (counted_map file_line file_of 0 files))
    (c.in_ok-put_all-2.ensures ∙ ap (λ t. vec_items c.put_all.new.out ++ t) (counted_map pool_line pool_of 0 pools))
    (c.in_ok-put_all-3.ensures ∙ ap (λ t. vec_items c.put_all-2.new.out ++ t) (counted_map edge_lines edge_of 0 edges))
    c.in_ok-put_store.ensures
