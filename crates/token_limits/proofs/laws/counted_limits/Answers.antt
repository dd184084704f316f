use Rattle.token_limits.proofs.Limited.{derived_limit, wrong_limit, begun_limit, limit_begun}
use Rattle.token_limits.proofs.laws.counted_limits.Goals as goal

pub returns-clause-derived : goal.returns-clause-derived
returns-clause-derived c = derived_limit

pub returns-clause-wrong : goal.returns-clause-wrong
returns-clause-wrong c = wrong_limit

pub returns-clause-passed : goal.returns-clause-passed
returns-clause-passed c tokens at =
    (λ read. limit_begun tokens read.0 at read.1, λ found. begun_limit tokens found.0 at found.1)
