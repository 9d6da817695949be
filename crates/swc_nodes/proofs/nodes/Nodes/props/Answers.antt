use Rattle.swc_nodes.proofs.{Covers.object-covers, Covers.object-is, Held.stood-is}
use Rattle.swc_nodes.proofs.nodes.Nodes.props.Goals as goal

pub returns-in-Object : goal.returns-in-Object
returns-in-Object g c =
    let stood = stood-is _ c.in-Object.is c.get.ensures in
    record {
      is = object-is c.in-Object.span c.in-Object.props c.in-Object.trailing_comma stood c.requires.within;
      covers = object-covers c.in-Object.span c.in-Object.props c.in-Object.trailing_comma stood;
    }
