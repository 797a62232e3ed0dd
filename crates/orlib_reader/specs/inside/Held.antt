-- How the numbers found so far are held.
use Rattle.std.specs.Prelude.{ℤ, List, []}
use Rattle.orlib_reader.specs.declared.layout.Layout.{Layout}
use Rattle.orlib_reader.specs.declared.layout.Layout.TheVariants as layouts
use Rattle.orlib_reader.specs.declared.pairs.Pairs.{Pairs}
use Rattle.orlib_reader.specs.declared.pairs.Pairs.TheVariants.{Nothing, Dense, Sparse}

abbrev pub layout_in : Pairs → Layout
layout_in (Nothing alloc layout) = layout
layout_in (Dense rows) = layouts.Dense
layout_in (Sparse triples) = layouts.Sparse

abbrev pub found_in : Pairs → List ℤ
found_in (Nothing alloc layout) = []
found_in (Dense rows) = rows
found_in (Sparse triples) = triples
