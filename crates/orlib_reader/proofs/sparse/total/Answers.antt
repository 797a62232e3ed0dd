use Rattle.std.proofs.Common.{◌≡◌, arith, map, length}
use Rattle.std.proofs.lemmas.List.{length-map}
use Rattle.orlib_reader.proofs.Gathered.{gathered_length}
use Rattle.orlib_reader.proofs.sparse.total.Goals as goal

pub overflow_mul-result : goal.overflow_mul-result
overflow_mul-result c =
    let long = gathered_length (map (λ p. p.items) c.args.pieces.now.items) c.args.piece.now.items c.requires.full in
    let same : length (map (λ p. p.items) c.args.pieces.now.items) ≡ length c.args.pieces.now.items = length-map _ _ in
    let count = c.args.pieces.now.ok.0 in let few = c.requires.few in let l = c.len.ensures in
    omega arith

pub overflow_add-result : goal.overflow_add-result
overflow_add-result c =
    let long = gathered_length (map (λ p. p.items) c.args.pieces.now.items) c.args.piece.now.items c.requires.full in
    let same : length (map (λ p. p.items) c.args.pieces.now.items) ≡ length c.args.pieces.now.items = length-map _ _ in
    let count = c.args.pieces.now.ok.0 in let few = c.requires.few in let l = c.len.ensures in
    let last = c.args.piece.now.ok.0 in let m = c.len-2.ensures in omega arith

pub returns : goal.returns
returns c =
    let long = gathered_length (map (λ p. p.items) c.args.pieces.now.items) c.args.piece.now.items c.requires.full in
    let same : length (map (λ p. p.items) c.args.pieces.now.items) ≡ length c.args.pieces.now.items = length-map _ _ in
    let count = c.args.pieces.now.ok.0 in let l = c.len.ensures in
    let last = c.args.piece.now.ok.0 in let m = c.len-2.ensures in omega arith
