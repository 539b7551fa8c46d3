-- A risk tariff as lists and numbers.
use Rattle.std.specs.Prelude.{ℕ, Bool, List, ℤ}
use Rattle.contracts.specs.Lines.{Line}
use Rattle.tariff.specs.declared.rows.Credit.{Credit}
use Rattle.tariff.specs.declared.rows.Prices.{Prices}
use Rattle.tariff.specs.declared.rows.Risk.{Risk}
use Rattle.tariff.specs.declared.rows.Step.{Step}

-- a line of the contract table, with its risk
pub record Rated : Type 0 where
  pub line : Line
  pub risk : Risk

-- a group's price range and limits
pub record Ranged : Type 0 where
  pub group : ℕ
  pub range : ℕ
  pub steps : List Step

-- final prices or provisional ones; spot prices by the place of the instrument, prices by the place of the contract
pub record Said : Type 0 where
  pub settled : Bool
  pub spots : List ℤ
  pub prices : List Prices
  pub risks : List Rated
  pub ranges : List Ranged
  pub credits : List Credit
