use Rattle.std.proofs.Common.{arith}
use Rattle.orlib_reader.proofs.Gathered.{few_triples, short_of_person, short_of_pair, sparse_done}
use Rattle.orlib_reader.proofs.sparse.Triples.finish.Goals as goal

pub total-count-requires-clause-few : goal.total-count-requires-clause-few
total-count-requires-clause-few c = few_triples _ _ c.self.inside.begun _ c.self.view_is c.requires

pub overflow_mul-result : goal.overflow_mul-result
overflow_mul-result c = let few = few_triples _ _ c.self.inside.begun _ c.self.view_is c.requires in let count = c.total-count.ensures in omega arith

pub overflow_add-result : goal.overflow_add-result
overflow_add-result c = let few = few_triples _ _ c.self.inside.begun _ c.self.view_is c.requires in let count = c.total-count.ensures in omega arith

pub overflow_mul-result-in-Pair : goal.overflow_mul-result-in-Pair
overflow_mul-result-in-Pair c = let few = few_triples _ _ c.self.inside.begun _ c.self.view_is c.requires in let count = c.total-count.ensures in omega arith

pub overflow_add-result-in-Pair : goal.overflow_add-result-in-Pair
overflow_add-result-in-Pair c = let few = few_triples _ _ c.self.inside.begun _ c.self.view_is c.requires in let count = c.total-count.ensures in omega arith

pub returns-in_ok-made-in-Nothing : goal.returns-in_ok-made-in-Nothing
returns-in_ok-made-in-Nothing c = sparse_done _ _ c.self.inside.begun _ _ c.in-Nothing.is c.self.view_is c.in_ok-made-in-Nothing.ensures

pub returns-in-Person : goal.returns-in-Person
returns-in-Person c =
    let count = c.total-count.ensures in
    short_of_person _ _ c.self.inside.begun c.in-Person.field-0 _ _ c.in-Person.is c.self.view_is (omega arith)

pub returns-in-Pair : goal.returns-in-Pair
returns-in-Pair c =
    let count = c.total-count.ensures in
    short_of_pair _ _ c.self.inside.begun c.in-Pair.field-0 c.in-Pair.field-1 _ _ c.in-Pair.is c.self.view_is (omega arith)
