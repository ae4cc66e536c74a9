-- A program of this tool depends on the words at which it looks, and on no others.
use Rattle.bsp_step.specs.Footprint.{IsFootprint}
use Rattle.collectives.specs.declared.catalogue.Collective.{Collective as Collectives}
use Rattle.collectives.specs.declared.catalogue.Collective.TheVariants.{Moving, Combining, Parting}
use Rattle.collectives.specs.Catalogue.{collective_plan, collective_looks}
use Rattle.collectives.specs.MovingFootprint.{moving_footprint}
use Rattle.collectives.specs.CombiningFootprint.{combining_footprint}
use Rattle.collectives.specs.PartingFootprint.{parting_footprint}

pub collective_footprint : (p : Collectives) → IsFootprint (λ v. (collective_plan p v).acts) (λ v. (collective_plan p v).ending) (collective_looks p)
collective_footprint (Moving call) = moving_footprint call
collective_footprint (Combining call) = combining_footprint call
collective_footprint (Parting call) = parting_footprint
