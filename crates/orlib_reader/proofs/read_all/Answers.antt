use Rattle.std.proofs.Common.{arith, ◌∙◌, ◌≡◌, length, take, length-take-le}
use Rattle.std.proofs.lemmas.Result.{err_from_is_err_and}
use Rattle.orlib_reader.proofs.Streams.{follows_more, fault_comes}
use Rattle.orlib_reader.proofs.read_all.Goals as goal

pub returns-in_err-feed_all : goal.returns-in_err-feed_all
returns-in_err-feed_all g c =
    let passed = err_from_is_err_and c.from_residual-in_err-feed_all.result c.from_residual-in_err-feed_all.ensures.1 in
    rw (passed.1, passed.2)
    (fault_comes _ _ _ _ c.loop.machine c.in_err-feed_all.field-0.0 _ c.loop.invariant.follows c.in_ok-count.ensures.bytes.0 c.in_err-feed_all.ensures.after)

pub loop-preserved : goal.loop-preserved
loop-preserved g c = let a = c.in_ok-feed_all.ensures.at in record {
  follows = follows_more _ _ _ _ c.loop.machine c.feed_all.new.self _ c.loop.invariant.follows c.in_ok-count.ensures.bytes.0 c.in_ok-feed_all.ensures.after;
  layout = c.in_ok-feed_all.ensures.layout ∙ c.loop.invariant.layout;
  far = let b = c.in_ok-count.ensures.bound in let z = c.if-count-eq0.false in
      let t : length (take c.in_ok-count.count c.read.new.buf) ≡ c.in_ok-count.count =
      length-take-le c.in_ok-count.count c.read.new.buf (omega (arith, b)) in omega arith;
  bound = c.in_ok-feed_all.ensures.bound;
}
