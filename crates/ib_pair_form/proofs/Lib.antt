mod KeyLaws
mod PairFitLaws
mod ScriptCalls
mod SecondLaws
mod TextLaws
mod ValueText
