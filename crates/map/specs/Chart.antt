-- What a map is to the marking rules. Definitions only.
use Rattle.marking.specs.Rules.{Chart, chart}
use Rattle.map.specs.declared.Map.{Map}

abbrev pub chart_of : Map → Chart
chart_of m = chart m.image.bytes.now m.image.origin m.marks.now
