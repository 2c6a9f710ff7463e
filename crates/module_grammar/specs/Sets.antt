-- The LL(1) sets of the grammar of tokens. What is ahead is a bit: 0 for the end, and k + 1 for kind k.
use Rattle.std.specs.Prelude.{true, false, List, [], ◌∷◌}
use Rattle.predictive.specs.GapListing.{listed_with}
use Rattle.module_grammar.specs.Rules.{rules}
use Rattle.module_grammar.specs.Tokens.{gap}
use Rattle.predictive.specs.Listed.{Facts, Listed, sets_of}
use Rattle.predictive.specs.Predictive.{Sets}

abbrev pub facts : List Facts
facts =
    -- Module
    record { nullable = true; first = 9444823038831383019534; follow = 1; cost = 6; shortest = 0; rank = 0 }
    -- Item
    ∷ record { nullable = false; first = 9444823038831383019534; follow = 9444823038831383019535; cost = 4; shortest = 2; rank = 0 }
    -- TypeBody
    ∷ record { nullable = false; first = 4398047559680; follow = 9444823038831383019535; cost = 2; shortest = 9; rank = 0 }
    -- GlobalBody
    ∷ record { nullable = false; first = 13510798882275328; follow = 9444823038831383019535; cost = 6; shortest = 11; rank = 2 }
    -- GlobalLinkage
    ∷ record { nullable = true; first = 32768; follow = 4503599627501568; cost = 2; shortest = 13; rank = 0 }
    -- Align
    ∷ record { nullable = true; first = 36893488147419103232; follow = 9444823038831383019535; cost = 2; shortest = 15; rank = 0 }
    -- DeclaredName
    ∷ record { nullable = false; first = 12; follow = 9444823038831383019535; cost = 2; shortest = 17; rank = 2 }
    -- DeclaredParams
    ∷ record { nullable = true; first = 2361183241434824179778; follow = 295147905179352825857; cost = 10; shortest = 19; rank = 0 }
    -- MoreDeclared
    ∷ record { nullable = true; first = 36893488147419103232; follow = 295147905179352825857; cost = 2; shortest = 21; rank = 0 }
    -- NextDeclared
    ∷ record { nullable = false; first = 2361183241434824179778; follow = 295147905179352825857; cost = 8; shortest = 23; rank = 0 }
    -- Result
    ∷ record { nullable = false; first = 16142589914424868930; follow = 12; cost = 14; shortest = 25; rank = 1 }
    -- Convention
    ∷ record { nullable = true; first = 562949953421312; follow = 16142026964471447618; cost = 2; shortest = 26; rank = 0 }
    -- ResultType
    ∷ record { nullable = false; first = 68681794; follow = 147573952589676412940; cost = 6; shortest = 28; rank = 0 }
    -- Head
    ∷ record { nullable = false; first = 16142589914424868930; follow = 9444732965739291475968; cost = 16; shortest = 30; rank = 2 }
    -- HeadEnd
    ∷ record { nullable = true; first = 56691464105827227402240; follow = 9444823038831384068111; cost = 8; shortest = 31; rank = 1 }
    -- UnnamedAddr
    ∷ record { nullable = true; first = 4503599627370496; follow = 66136282641058984230927; cost = 2; shortest = 32; rank = 0 }
    -- Linkage
    ∷ record { nullable = true; first = 9007199254773760; follow = 16142589914424868930; cost = 2; shortest = 34; rank = 0 }
    -- Params
    ∷ record { nullable = true; first = 1572930; follow = 295147905179352825856; cost = 8; shortest = 37; rank = 0 }
    -- MoreParams
    ∷ record { nullable = true; first = 36893488147419103232; follow = 295147905179352825856; cost = 2; shortest = 39; rank = 0 }
    -- Param
    ∷ record { nullable = false; first = 1572930; follow = 332041393326771929089; cost = 6; shortest = 41; rank = 2 }
    -- ParamName
    ∷ record { nullable = true; first = 2; follow = 332041393326771929089; cost = 2; shortest = 42; rank = 0 }
    -- ParamAttributes
    ∷ record { nullable = true; first = 16142026964402765824; follow = 332041394155783979247; cost = 4; shortest = 44; rank = 0 }
    -- ParamAttribute
    ∷ record { nullable = false; first = 16142026964402765824; follow = 348183421120186745071; cost = 2; shortest = 46; rank = 0 }
    -- FunctionAttributes
    ∷ record { nullable = true; first = 56691459602227600031744; follow = 9481717072561666268687; cost = 4; shortest = 51; rank = 0 }
    -- FunctionAttribute
    ∷ record { nullable = false; first = 56691459602227600031744; follow = 66173176674789266300431; cost = 2; shortest = 53; rank = 0 }
    -- AttributeValue
    ∷ record { nullable = true; first = 73786976294838206464; follow = 66173176674789266300431; cost = 2; shortest = 59; rank = 0 }
    -- Attached
    ∷ record { nullable = true; first = 9444732965739290427392; follow = 1048576; cost = 4; shortest = 61; rank = 0 }
    -- Attachments
    ∷ record { nullable = true; first = 36893488147419103232; follow = 590296355950158683666; cost = 2; shortest = 63; rank = 0 }
    -- Attachment
    ∷ record { nullable = false; first = 9444732965739290427392; follow = 627189844097578835474; cost = 2; shortest = 65; rank = 2 }
    -- Meta
    ∷ record { nullable = false; first = 14167099448608935641088; follow = 10072012882928961855007; cost = 2; shortest = 66; rank = 1 }
    -- MetaArguments
    ∷ record { nullable = true; first = 147573952589676412928; follow = 10072012882928961855007; cost = 2; shortest = 68; rank = 0 }
    -- Bang
    ∷ record { nullable = false; first = 37778931862957162758144; follow = 10072012882928961855007; cost = 2; shortest = 70; rank = 0 }
    -- Distinct
    ∷ record { nullable = true; first = 144115188075855872; follow = 14167099448608935641088; cost = 2; shortest = 72; rank = 0 }
    -- AnyType
    ∷ record { nullable = false; first = 1572930; follow = 11713197771457056808623; cost = 4; shortest = 74; rank = 1 }
    -- BaseType
    ∷ record { nullable = false; first = 1572930; follow = 11713197771457057070767; cost = 2; shortest = 75; rank = 0 }
    -- Stars
    ∷ record { nullable = true; first = 262144; follow = 11713197771457056808623; cost = 2; shortest = 79; rank = 0 }
    -- Types
    ∷ record { nullable = true; first = 1572930; follow = 590295810358705651712; cost = 6; shortest = 81; rank = 0 }
    -- MoreTypes
    ∷ record { nullable = true; first = 36893488147419103232; follow = 590295810358705651712; cost = 2; shortest = 83; rank = 0 }
    -- Called
    ∷ record { nullable = true; first = 2361183241434824179778; follow = 295147905179352825857; cost = 8; shortest = 85; rank = 0 }
    -- MoreCalled
    ∷ record { nullable = true; first = 36893488147419103232; follow = 295147905179352825857; cost = 2; shortest = 87; rank = 0 }
    -- NextCalled
    ∷ record { nullable = false; first = 2361183241434824179778; follow = 295147905179352825857; cost = 6; shortest = 89; rank = 0 }
    -- FunctionType
    ∷ record { nullable = true; first = 147573952589676412928; follow = 12; cost = 2; shortest = 91; rank = 0 }
    -- GlobalName
    ∷ record { nullable = false; first = 12; follow = 11769113337712387038751; cost = 2; shortest = 93; rank = 0 }
    -- Int
    ∷ record { nullable = false; first = 160; follow = 11547752408827872419359; cost = 2; shortest = 95; rank = 0 }
    -- Inbounds
    ∷ record { nullable = true; first = 8796093022208; follow = 147573952589677985858; cost = 2; shortest = 97; rank = 0 }
    -- Const
    ∷ record { nullable = false; first = 4309647532; follow = 11547752408827872419359; cost = 4; shortest = 100; rank = 0 }
    -- MoreConsts
    ∷ record { nullable = true; first = 36893488147419103232; follow = 295147905179352825856; cost = 2; shortest = 105; rank = 0 }
    -- Init
    ∷ record { nullable = false; first = 1729382261221490860; follow = 11252603958054919077903; cost = 6; shortest = 108; rank = 0 }
    -- Inits
    ∷ record { nullable = true; first = 1572930; follow = 1770887431076116955136; cost = 6; shortest = 112; rank = 0 }
    -- MoreInits
    ∷ record { nullable = true; first = 36893488147419103232; follow = 1770887431076116955136; cost = 2; shortest = 114; rank = 0 }
    -- Value
    ∷ record { nullable = false; first = 828943368366; follow = 922337749279078096403; cost = 6; shortest = 117; rank = 0 }
    -- Operand
    ∷ record { nullable = false; first = 1572930; follow = 627189844099725270547; cost = 6; shortest = 120; rank = 2 }
    -- Operator
    ∷ record { nullable = false; first = 3584; follow = 1572930; cost = 2; shortest = 123; rank = 0 }
    -- Flags
    ∷ record { nullable = true; first = 16384; follow = 1572930; cost = 2; shortest = 124; rank = 0 }
    -- Exactness
    ∷ record { nullable = true; first = 268435456; follow = 1572930; cost = 2; shortest = 126; rank = 0 }
    -- Operation
    ∷ record { nullable = false; first = 1619009024; follow = 36894033730282200579; cost = 4; shortest = 128; rank = 3 }
    -- Attach
    ∷ record { nullable = false; first = 545359390580224; follow = 545582863097346; cost = 6; shortest = 135; rank = 2 }
    -- AlignBehind
    ∷ record { nullable = true; first = 36893488147419103232; follow = 545582863097346; cost = 2; shortest = 140; rank = 0 }
    -- NextAlign
    ∷ record { nullable = false; first = 9444734091639197270016; follow = 545582863097346; cost = 4; shortest = 142; rank = 1 }
    -- CountBehind
    ∷ record { nullable = true; first = 36893488147419103232; follow = 545582863097346; cost = 2; shortest = 144; rank = 0 }
    -- NextCount
    ∷ record { nullable = false; first = 9444734091639198842946; follow = 545582863097346; cost = 6; shortest = 146; rank = 2 }
    -- IndicesBehind
    ∷ record { nullable = true; first = 36893488147419103232; follow = 545582863097346; cost = 2; shortest = 148; rank = 0 }
    -- NextIndex
    ∷ record { nullable = false; first = 9444732965739292000322; follow = 545582863097346; cost = 8; shortest = 150; rank = 3 }
    -- CallBody
    ∷ record { nullable = false; first = 16142589914424868930; follow = 36894033730282200578; cost = 6; shortest = 152; rank = 2 }
    -- Callee
    ∷ record { nullable = false; first = 68681794; follow = 147573952589676412928; cost = 8; shortest = 156; rank = 1 }
    -- VoidCallee
    ∷ record { nullable = false; first = 147573952589676412940; follow = 36894033730282200578; cost = 4; shortest = 157; rank = 2 }
    -- VoidCall
    ∷ record { nullable = false; first = 12; follow = 36894033730282200578; cost = 2; shortest = 160; rank = 1 }
    -- CallEnd
    ∷ record { nullable = false; first = 147573952589676412928; follow = 36894033730282200578; cost = 2; shortest = 161; rank = 1 }
    -- Arguments
    ∷ record { nullable = true; first = 1572930; follow = 295147905179352825856; cost = 8; shortest = 162; rank = 0 }
    -- MoreArguments
    ∷ record { nullable = true; first = 36893488147419103232; follow = 295147905179352825856; cost = 2; shortest = 164; rank = 0 }
    -- Argument
    ∷ record { nullable = false; first = 1572930; follow = 332041393326771929088; cost = 6; shortest = 166; rank = 2 }
    -- Line
    ∷ record { nullable = false; first = 545359390580226; follow = 545582863097346; cost = 10; shortest = 167; rank = 3 }
    -- Register
    ∷ record { nullable = true; first = 2; follow = 545367980514816; cost = 2; shortest = 168; rank = 0 }
    -- Lines
    ∷ record { nullable = true; first = 545359390580226; follow = 223472517120; cost = 12; shortest = 170; rank = 0 }
    -- Expr
    ∷ record { nullable = false; first = 35185996865090; follow = 1; cost = 8; shortest = 172; rank = 3 }
    -- Indices
    ∷ record { nullable = true; first = 36893488147419103232; follow = 1; cost = 2; shortest = 176; rank = 0 }
    -- LocalName
    ∷ record { nullable = false; first = 2; follow = 1; cost = 2; shortest = 178; rank = 0 }
    -- Block
    ∷ record { nullable = false; first = 545591453031954; follow = 590296355950158683666; cost = 20; shortest = 179; rank = 2 }
    -- BlockLabel
    ∷ record { nullable = true; first = 16; follow = 545591453031938; cost = 2; shortest = 180; rank = 0 }
    -- Blocks
    ∷ record { nullable = true; first = 545591453031954; follow = 590295810358705651712; cost = 22; shortest = 182; rank = 0 }
    -- Body
    ∷ record { nullable = true; first = 545367980514818; follow = 223472517120; cost = 12; shortest = 184; rank = 0 }
    -- Behind
    ∷ record { nullable = false; first = 545367980514816; follow = 223472517120; cost = 8; shortest = 186; rank = 3 }
    -- Node
    ∷ record { nullable = false; first = 8589934592; follow = 545591453031938; cost = 2; shortest = 188; rank = 2 }
    -- EntriesBehind
    ∷ record { nullable = true; first = 36893488147419103232; follow = 545591453031938; cost = 2; shortest = 189; rank = 0 }
    -- NextEntry
    ∷ record { nullable = false; first = 9444732965739290951680; follow = 545591453031938; cost = 4; shortest = 191; rank = 2 }
    -- Entry
    ∷ record { nullable = false; first = 524288; follow = 36894033738872135170; cost = 2; shortest = 193; rank = 1 }
    -- End
    ∷ record { nullable = false; first = 223472517120; follow = 590296355950158683666; cost = 4; shortest = 194; rank = 1 }
    -- Term
    ∷ record { nullable = false; first = 223472517120; follow = 627189844097577786898; cost = 2; shortest = 198; rank = 0 }
    -- Returned
    ∷ record { nullable = false; first = 68681794; follow = 627189844097577786898; cost = 8; shortest = 199; rank = 0 }
    -- Branch
    ∷ record { nullable = false; first = 34361311298; follow = 627189844097577786898; cost = 8; shortest = 201; rank = 0 }
    -- Cases
    ∷ record { nullable = true; first = 1572930; follow = 1180591620717411303424; cost = 8; shortest = 203; rank = 0 }
    -- Case
    ∷ record { nullable = false; first = 1572930; follow = 1180591620717412876354; cost = 6; shortest = 205; rank = 2 }
    -- what is balanced
    ∷ record { nullable = true; first = 73491828389658853638142; follow = 2066035336255469780992; cost = 4; shortest = 206; rank = 0 }
    -- any token
    ∷ record { nullable = false; first = 73344254437069175652350; follow = 75557863725914323419134; cost = 2; shortest = 211; rank = 0 }
    ∷ []

abbrev pub listing : Listed
listing = listed_with facts rules gap

abbrev pub sets : Sets
sets = sets_of listing
